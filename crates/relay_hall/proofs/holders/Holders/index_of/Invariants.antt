-- None of those looked at so far is the key.
use Rattle.std.proofs.Common.{◌≡◌, None, take}
use Rattle.relay_hall.specs.Holders.{presence_of}
use Rattle.relay_hall.proofs.holders.Holders.index_of.Given as goal

abbrev pub invariant-loop-at : goal.invariant-loop-at
invariant-loop-at l = presence_of l.key (take l.at l.self.rows.items) ≡ None
