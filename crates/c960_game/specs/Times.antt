-- How often the present position has appeared (FIDE Laws, Article 9.2).
use Rattle.std.specs.Prelude.{ℕ, ◌-◌, List, length, drop, count_by}
use Rattle.c960_board.specs.declared.parts.Parts.{Parts}
use Rattle.c960_board.specs.Moves.{Triple}
use Rattle.c960_game.specs.Positions.{last_position, positions}
use Rattle.c960_game.specs.Tests.Same.{same}

-- how many of the positions are the same as the last, which is one of them
unfoldable pub times : ℕ → List Triple → ℕ
times n l = count_by (λ p. same p (last_position n l)) (positions n l)

-- how many moves were made before the half-move counter began to count: those up to and including the last capture or pawn move,
-- or none if there was no such move
unfoldable pub uncounted : ℕ → List Triple → ℕ
uncounted n l = length l - (last_position n l).half_moves

-- the positions since then: the one from which the counter counts, and those after it
unfoldable pub recent_positions : ℕ → List Triple → List Parts
recent_positions n l = drop (uncounted n l) (positions n l)

-- how many of them are the same as the last
unfoldable pub recent_times : ℕ → List Triple → ℕ
recent_times n l = count_by (λ p. same p (last_position n l)) (recent_positions n l)
