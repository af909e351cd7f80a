use Rattle.relay960_engines.proofs.AnswerFacts.{passed_on}
use Rattle.relay960_engines.proofs.TakingFacts.{taken_sent, stops_sent}
use Rattle.relay960_engines.proofs.progress.take_chunk.Goals as goal

pub returns-in_err-take_bytes-clause-failed : goal.returns-in_err-take_bytes-clause-failed
returns-in_err-take_bytes-clause-failed g c =
    passed_on _ _ _ c.from_residual.ensures.1 c.in_err-take_bytes.ensures.failed

pub returns-clause-took : goal.returns-clause-took
returns-clause-took g c =
    taken_sent _ _ _ _ _ _ _ _ _ _ c.in_ok-take_bytes.ensures.took c.send.ensures.whole

pub returns-clause-failed : goal.returns-clause-failed
returns-clause-failed g c =
    stops_sent _ _ _ _ _ _ _ _ _ _ _ c.in_ok-take_bytes.ensures.took c.in_ok-take_bytes.ensures.within
    c.send.ensures.part c.send.ensures.fault
