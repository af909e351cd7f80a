-- The draws that end a game without a claim (FIDE Laws, Articles 9.6.1 and 9.6.2).
use Rattle.std.specs.Prelude.{ℕ, nat_le, List, Option, Some, None, cond}
use Rattle.c960_board.specs.Moves.{Triple}
use Rattle.c960_game.specs.declared.outcome.Outcome.{Outcome}
use Rattle.c960_game.specs.declared.outcome.Outcome.TheVariants.{Fivefold, SeventyFive}
use Rattle.c960_game.specs.Positions.{last_position}
use Rattle.c960_game.specs.Times.{times}

-- Fivefold if the position has appeared at least five times; else SeventyFive if the half-move counter is at least 150,
-- which is seventy-five moves of each side without a capture and a pawn move; else none.
unfoldable pub draw_of : ℕ → ℕ → Option Outcome
draw_of appearances half_moves =
    cond (nat_le 5 appearances) (Some Fivefold)
    (cond (nat_le 150 half_moves) (Some SeventyFive) None)

-- the draw of the present position of a game; it counts if the last move has given neither mate nor stalemate
unfoldable pub auto_outcome : ℕ → List Triple → Option Outcome
auto_outcome n l = draw_of (times n l) (last_position n l).half_moves
