use Rattle.std.proofs.Common.{◌≡◌, ℕ, ◌<◌, false}
use Rattle.c960_board.specs.Sets.{is_in}
use Rattle.c960_rules.specs.Inner.Listing.{HasMoveFrom}
use Rattle.c960_rules.proofs.any.any_legal.Given as goal

abbrev pub invariant-loop-left : goal.invariant-loop-left
invariant-loop-left l = (s : ℕ) → s < 64 → is_in l.left s ≡ false → HasMoveFrom l.position s → ⊥

abbrev pub decreases-loop-left : goal.decreases-loop-left
decreases-loop-left l = l.left
