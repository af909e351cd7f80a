use Rattle.std.proofs.Common.{◌≡◌, ℕ, ◌<◌}
use Rattle.c960_board.specs.Array.{array}
use Rattle.c960_board.proofs.numbering.number_of.Given as goal

abbrev pub invariant-loop-number : goal.invariant-loop-number
invariant-loop-number l = (n : ℕ) → n < l.number → array n ≡ l.rank → ⊥
