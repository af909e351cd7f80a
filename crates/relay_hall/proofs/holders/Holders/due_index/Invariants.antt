-- None of those looked at so far is due.
use Rattle.std.proofs.Common.{take}
use Rattle.relay_hall.specs.Holders.{NoneHasRunOut}
use Rattle.relay_hall.proofs.holders.Holders.due_index.Given as goal

abbrev pub invariant-loop-at : goal.invariant-loop-at
invariant-loop-at l = NoneHasRunOut l.now (take l.at l.self.rows.items)
