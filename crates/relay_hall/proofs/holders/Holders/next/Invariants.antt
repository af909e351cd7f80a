-- The earliest time of those looked at so far.
use Rattle.std.proofs.Common.{take}
use Rattle.relay_hall.specs.Holders.{IsNextDue}
use Rattle.relay_hall.proofs.holders.Holders.next.Given as goal

abbrev pub invariant-loop-at : goal.invariant-loop-at
invariant-loop-at l = IsNextDue (take l.at l.self.rows.items) l.next
