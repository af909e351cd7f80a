-- Whether the bytes were the same so far.
use Rattle.std.proofs.Common.{◌≡◌, take, nat_eq}
use Rattle.std.specs.Cmp.Lexicographic.{pointwise}
use Rattle.relay_hall.proofs.key.are_same.Given as goal

abbrev pub invariant-loop-at : goal.invariant-loop-at
invariant-loop-at l = l.are_same ≡ pointwise nat_eq (take l.at l.fn.mine) (take l.at l.fn.theirs)
