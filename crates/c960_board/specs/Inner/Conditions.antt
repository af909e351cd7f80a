-- `IsPlacement` and `AreRights` for one side and one king's square: the contracts of the tests in src/conditions use them.
use Rattle.std.specs.Prelude.{ℕ, ◌≡◌, ◌≢◌, ◌<◌, List, IsTrue, nat_lt, count_by}
use Rattle.c960_board.specs.declared.piece.Colour.{Colour}
use Rattle.c960_board.specs.declared.piece.Kind.TheVariants.{Pawn, King}
use Rattle.c960_board.specs.declared.rights.CastlingRights.{CastlingRights}
use Rattle.c960_board.specs.Pieces.{Cell, man, holds}
use Rattle.c960_board.specs.Cells.{cell_at, has_right}
use Rattle.c960_board.specs.Squares.{file_of, rank_of, home_rank, IsEndRank}

-- a side has one king, and none of its pawns is on the first or the last rank
pub record IsSidePlacement (cells : List Cell) (c : Colour) : Type 0 where
  pub one_king : count_by (holds c King) cells ≡ 1
  pub no_end_pawn : (s : ℕ) → s < 64 → IsEndRank (rank_of s) → cell_at cells s ≢ man c Pawn

-- the rights of a side fit its king on that square
pub record RightsFitKing (r : CastlingRights) (c : Colour) (s : ℕ) : Type 0 where
  pub home : (f : ℕ) → f < 8 → IsTrue (has_right r c f) → rank_of s ≡ home_rank c
  pub one_each_side : (f g : ℕ) → f < 8 → g < 8 → IsTrue (has_right r c f) → IsTrue (has_right r c g)
      → nat_lt f (file_of s) ≡ nat_lt g (file_of s) → f ≡ g
