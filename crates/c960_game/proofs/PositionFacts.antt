-- How many positions a log has, and how often one appears.
use Rattle.std.proofs.Common.{◌≡◌, ℕ, ◌+◌, ◌≤◌, List, [], ◌∷◌, ◌++◌, length, drop, refl, arith}
use Rattle.std.proofs.lemmas.List.Sums.{count_by-le-length}
use Rattle.c960_board.specs.declared.parts.Parts.{Parts}
use Rattle.c960_board.specs.Moves.{Triple}
use Rattle.c960_board.specs.Start.{start}
use Rattle.c960_rules.specs.After.{after}
use Rattle.c960_game.specs.Positions.{last_position, position_after, positions, positions_from}
use Rattle.c960_game.specs.Tests.Same.{same}
use Rattle.c960_game.specs.Times.{times}

-- one position more than moves
pub length_positions : (p : Parts) (l : List Triple) → length (positions_from p l) ≡ length l + 1
unfolding positions_from
length_positions p [] = omega arith
length_positions p (m ∷ l) = omega (arith, length_positions (after p m) l)

-- the positions from a later one on
pub later_positions : (p : Parts) (l later : List Triple)
    → drop (length l) (positions_from p (l ++ later)) ≡ positions_from (position_after p l) later
unfolding positions_from position_after
later_positions p [] later = refl
later_positions p (m ∷ l) later = later_positions (after p m) l later

-- a position appears no more often than there are positions
pub times_bound : (n : ℕ) (l : List Triple) → times n l ≤ length l + 1
unfolding times
times_bound n l =
    omega (arith, count_by-le-length (λ p. same p (last_position n l)) (positions n l), length_positions (start n) l)
