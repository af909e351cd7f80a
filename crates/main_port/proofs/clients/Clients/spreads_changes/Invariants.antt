use Rattle.main_port.specs.Others.{AllStay}
use Rattle.main_port.proofs.clients.Clients.spreads_changes.Given as goal

abbrev pub invariant-loop : goal.invariant-loop
invariant-loop g l = AllStay l.initial.self.each.entries l.self.each.entries
