-- What a move does to the board, as the laws of moves state it (FIDE Laws, Articles 3.1, 3.7 and 3.8.2;
-- Guidelines II.3).
use Rattle.std.specs.Prelude.{ℕ, ◌≡◌, ◌≢◌, ◌<◌, ◌⊎◌, Some, None, IsTrue}
use Rattle.c960_board.specs.declared.piece.Kind.{Kind}
use Rattle.c960_board.specs.declared.piece.Kind.TheVariants.{Rook, King}
use Rattle.c960_board.specs.declared.parts.Parts.{Parts}
use Rattle.c960_board.specs.Squares.{file_of, ahead, home_square}
use Rattle.c960_board.specs.Pieces.{man, other}
use Rattle.c960_board.specs.Cells.{cell_at}
use Rattle.c960_board.specs.Moves.{Triple}
use Rattle.c960_rules.specs.After.{is_en_passant, after}

-- where a move may take a piece: its goal and, for a capture en passant, the square behind it from the mover's point of view
abbrev pub IsTakenOn : Parts → Triple → ℕ → Type 0
IsTakenOn p m u = (u ≡ m.to) ⊎ (IsTrue (is_en_passant p m) × (u ≡ ahead (other p.turn) m.to))

-- The piece that moves, or what a pawn is promoted to, is on its goal, the square that it left is empty, and no other
-- piece of the mover's disappears or appears.
pub record CarriesOne (p : Parts) (m : Triple) : Type 0 where
  pub arrives : m.promotion ≡ None → cell_at (after p m).placement m.to ≡ cell_at p.placement m.from
  pub becomes : (k : Kind) → m.promotion ≡ Some k → cell_at (after p m).placement m.to ≡ man p.turn k
  pub left : cell_at (after p m).placement m.from ≡ None
  pub stay : (u : ℕ) (k : Kind) → u < 64 → u ≢ m.from → cell_at p.placement u ≡ man p.turn k
      → cell_at (after p m).placement u ≡ man p.turn k
  pub stood : (u : ℕ) (k : Kind) → u < 64 → u ≢ m.to → cell_at (after p m).placement u ≡ man p.turn k
      → cell_at p.placement u ≡ man p.turn k

-- The king and its rook are on these two files of their home rank, the squares that they left are empty unless one of them
-- is on them again, and every other square is as it was.
pub record CastledTo (p : Parts) (m : Triple) (king_file rook_file : ℕ) : Type 0 where
  pub king : cell_at (after p m).placement (home_square p.turn king_file) ≡ man p.turn King
  pub rook : cell_at (after p m).placement (home_square p.turn rook_file) ≡ man p.turn Rook
  pub left : (u : ℕ) → u < 64 → u ≢ home_square p.turn king_file → u ≢ home_square p.turn rook_file
      → (u ≡ m.from) ⊎ (u ≡ m.to) → cell_at (after p m).placement u ≡ None
  pub others : (u : ℕ) → u < 64 → u ≢ home_square p.turn king_file → u ≢ home_square p.turn rook_file → u ≢ m.from
      → u ≢ m.to → cell_at (after p m).placement u ≡ cell_at p.placement u

-- towards the h file the king goes to the g file (6) and its rook to the f file (5), otherwise to c (2) and d (3)
abbrev pub CastlesRightly : Parts → Triple → Type 0
CastlesRightly p m =
    ((file_of m.from < file_of m.to) × CastledTo p m 6 5) ⊎ ((file_of m.to < file_of m.from) × CastledTo p m 2 3)

-- the position with other counters
abbrev pub with_counters : Parts → ℕ → ℕ → Parts
with_counters p half_moves number = record p { half_moves = half_moves; number = number }
