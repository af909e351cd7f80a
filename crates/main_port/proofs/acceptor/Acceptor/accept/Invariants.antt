use Rattle.main_port.specs.Meeting.{OnlyMeets}
use Rattle.main_port.proofs.acceptor.Acceptor.accept.Given as goal

abbrev pub invariant-loop : goal.invariant-loop
invariant-loop g l = OnlyMeets l.initial.self l.self
