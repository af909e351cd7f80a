use Rattle.std.proofs.Common.{◌≡◌, ℕ, ◌<◌, false}
use Rattle.c960_board.specs.Sets.{is_in}
use Rattle.c960_rules.specs.Inner.Listing.{HasMoveBetween}
use Rattle.c960_rules.proofs.any.has_move_from.Given as goal

abbrev pub invariant-loop-left : goal.invariant-loop-left
invariant-loop-left l = (t : ℕ) → t < 64 → is_in l.left t ≡ false → HasMoveBetween l.position l.from t → ⊥

abbrev pub decreases-loop-left : goal.decreases-loop-left
decreases-loop-left l = l.left
