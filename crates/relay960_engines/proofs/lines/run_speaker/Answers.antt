use Rattle.relay960_engines.proofs.AnswerFacts.{passed_on}
use Rattle.relay960_engines.proofs.RunFacts.{stopped_before, stopped, done, stopped_last}
use Rattle.relay960_engines.proofs.lines.run_speaker.Goals as goal

pub returns-in_default-clause-failed : goal.returns-in_default-clause-failed
returns-in_default-clause-failed g c = stopped_before _ c.args.speaker.now c.args.bounds _ _

pub returns-in_err-take_all-clause-failed : goal.returns-in_err-take_all-clause-failed
returns-in_err-take_all-clause-failed g c =
    passed_on _ _ _ c.from_residual.ensures.1 (stopped _ g.met.A.Speaker.cut _ _ _ _ _ _
    c.in-Ok.ensures.line c.in-Ok.ensures.answered c.in-Ok.ensures.taken _ _ _ c.in_err-take_all.ensures.failed)

pub returns-clause-done : goal.returns-clause-done
returns-clause-done g c =
    done _ g.met.A.Speaker.cut _ _ c.args.bounds _ _ _
    c.in-Ok.ensures.line c.in-Ok.ensures.answered c.in-Ok.ensures.taken _ _ _ _ _ c.in_ok-take_all.ensures.took
    c.in_ok-take_all.ensures.within _ c.answer_last.ensures.wrote c.answer_last.ensures.count c.answer_last.ensures.within

pub returns-clause-failed : goal.returns-clause-failed
returns-clause-failed g c =
    stopped_last _ g.met.A.Speaker.cut _ _ c.args.bounds _ _ _
    c.in-Ok.ensures.line c.in-Ok.ensures.answered c.in-Ok.ensures.taken _ _ _ _ _ c.in_ok-take_all.ensures.took
    c.in_ok-take_all.ensures.within _ c.answer_last.ensures.failed
