-- Some of the keys that are to go are gone, and no other.
use Rattle.std.proofs.Common.{vec_len}
use Rattle.relay_hall.proofs.Expiring.{SomeRunOut}
use Rattle.relay_hall.proofs.holders.Holders.expire_all.Given as goal

abbrev pub invariant-loop-key : goal.invariant-loop-key
invariant-loop-key l = SomeRunOut l.now l.initial.self.rows.items l.self.rows.items

abbrev pub decreases-loop-key : goal.decreases-loop-key
decreases-loop-key l = vec_len l.self.rows
