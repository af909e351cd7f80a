use Rattle.main_port.specs.Others.{AllStay}
use Rattle.main_port.proofs.clients.Clients.spreads_change.Given as goal

abbrev pub invariant-loop-index : goal.invariant-loop-index
invariant-loop-index g l = AllStay l.initial.self.each.entries l.self.each.entries
