use Rattle.std.proofs.Common.{◌≡◌, ℕ, ◌<◌, None, length, get_or}
use Rattle.c960_board.specs.Sets.{cell_in}
use Rattle.c960_board.proofs.sets.Sets.placement.Given as goal

abbrev pub invariant-loop-number : goal.invariant-loop-number
invariant-loop-number l =
    (length l.placement ≡ 64) × ((u : ℕ) → u < l.number → get_or l.placement u None ≡ cell_in l.self u)
