use Rattle.std.specs.Prelude.{◌≡◌}
use Rattle.main_port.specs.Meeting.{IsOfTheSame}
use Rattle.main_port.proofs.event_loop.EventLoop.run.Given as goal

abbrev pub invariant-loop : goal.invariant-loop
invariant-loop g l = IsOfTheSame l.initial.self.acceptor l.self.acceptor × (l.self.has_journal ≡ l.initial.self.has_journal)
