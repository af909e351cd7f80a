use Rattle.relay960_engines.proofs.AnswerFacts.{passed_on}
use Rattle.relay960_engines.proofs.SendingFacts.{sent_answer, unsent_answer, unspelt_answer, halted_answer}
use Rattle.relay960_engines.proofs.speaker.AnySpeaker.speak.Goals as goal

pub returns-in-Ok-clause-sent : goal.returns-in-Ok-clause-sent
returns-in-Ok-clause-sent g c =
    sent_answer _ _ _ _ _ _ _ _ c.in-Ok.ensures.given (rw c.as_slice.ensures.value at c.add.ensures.sent)

pub returns-in-Ok-clause-failed : goal.returns-in-Ok-clause-failed
returns-in-Ok-clause-failed g c =
    unsent_answer _ _ _ _ _ _ _ _ c.in-Ok.ensures.given
    (rw c.as_slice.ensures.value at c.add.ensures.part) c.add.ensures.fault

pub returns-in_err-send-in-Err-clause-failed : goal.returns-in_err-send-in-Err-clause-failed
returns-in_err-send-in-Err-clause-failed g c =
    passed_on _ _ _ c.from_residual.ensures.1 (unspelt_answer _ _ _ _ _ _ _ (g.met.A.Answerer.spelt _ _ _ c.in-Err.ensures.unanswered)
    c.in_err-send-in-Err.ensures.fault c.in_err-send-in-Err.ensures.part)

pub returns-in_ok-send-in-Err-clause-failed : goal.returns-in_ok-send-in-Err-clause-failed
returns-in_ok-send-in-Err-clause-failed g c =
    halted_answer _ _ _ _ _ _ _ c.in-Err.ensures.unanswered c.in_ok-send-in-Err.ensures.whole
