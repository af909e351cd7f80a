-- What is true of every position (FIDE Laws, Articles 2, 3.7 and 3.8; Guidelines II.3).
use Rattle.std.specs.Prelude.{ℕ, ◌≡◌, ◌≢◌, ◌<◌, ◌≤◌, List, Some, None, nat_lt, length, count_by, IsTrue}
use Rattle.c960_board.specs.declared.piece.Colour.{Colour}
use Rattle.c960_board.specs.declared.piece.Colour.TheVariants.{White, Black}
use Rattle.c960_board.specs.declared.piece.Kind.TheVariants.{Pawn, Rook, King}
use Rattle.c960_board.specs.declared.rights.CastlingRights.{CastlingRights}
use Rattle.c960_board.specs.declared.parts.Parts.{Parts}
use Rattle.c960_board.specs.Squares.{file_of, rank_of, home_rank, home_square, ahead, IsEndRank}
use Rattle.c960_board.specs.Pieces.{Cell, man, other, holds}
use Rattle.c960_board.specs.Cells.{cell_at, has_right, rights_of}

-- 64 squares, one king a side, and no pawn on the first or the last rank
pub record IsPlacement (cells : List Cell) : Type 0 where
  pub full : length cells ≡ 64
  pub one_king : (c : Colour) → count_by (holds c King) cells ≡ 1
  pub no_end_pawn : (c : Colour) (s : ℕ) → s < 64 → IsEndRank (rank_of s) → cell_at cells s ≢ man c Pawn

-- For cells with one king a side, as `IsPlacement` says: each right has its rook on the side's home rank, the side's king
-- is on that rank too, and no two rights are on one side of the king. Without a king this says nothing about it.
pub record AreRights (cells : List Cell) (r : CastlingRights) (c : Colour) : Type 0 where
  pub width : length (rights_of r c) ≡ 8
  pub rook : (f : ℕ) → f < 8 → IsTrue (has_right r c f) → cell_at cells (home_square c f) ≡ man c Rook
  pub king : (f s : ℕ) → f < 8 → s < 64 → IsTrue (has_right r c f) → cell_at cells s ≡ man c King → rank_of s ≡ home_rank c
  pub one_each_side : (f g s : ℕ) → f < 8 → g < 8 → s < 64 → IsTrue (has_right r c f) → IsTrue (has_right r c g)
      → cell_at cells s ≡ man c King → nat_lt f (file_of s) ≡ nat_lt g (file_of s) → f ≡ g

-- the rank of an en passant target: rank 6 if White has the move, rank 3 if Black has it (5 and 2, counted from 0)
abbrev pub target_rank : Colour → ℕ
target_rank White = 5
target_rank Black = 2

-- A pawn of the side not to move may just have made a double step over t: t and the square that it came from are empty,
-- and it is on the next.
pub record IsTarget (cells : List Cell) (turn : Colour) (t : ℕ) : Type 0 where
  pub on_rank : rank_of t ≡ target_rank turn
  pub empty : cell_at cells t ≡ None
  pub behind : cell_at cells (ahead turn t) ≡ None
  pub pawn : cell_at cells (ahead (other turn) t) ≡ man (other turn) Pawn

-- the half-move counter from 0, the move number from 1
pub record AreCounters (h n : ℕ) : Type 0 where
  pub half_moves : h ≤ 65535
  pub numbered : 1 ≤ n
  pub bounded : n ≤ 65535

pub record IsPosition (p : Parts) : Type 0 where
  pub placement : IsPlacement p.placement
  pub rights : (c : Colour) → AreRights p.placement p.rights c
  pub target : (t : ℕ) → p.target ≡ Some t → IsTarget p.placement p.turn t
  pub counters : AreCounters p.half_moves p.number
