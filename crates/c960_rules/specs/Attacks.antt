-- Which squares a piece attacks: empty ones and those of either side, even if its own king would be exposed (FIDE Laws,
-- Articles 3.1.2, 3.1.3 and 3.2 to 3.8.1).
use Rattle.std.specs.Prelude.{ℕ, ◌≡◌, ◌≢◌, ◌<◌, ◌+◌, ◌⊎◌, ◌||◌, List, None, IsTrue, max}
use Rattle.c960_board.specs.declared.piece.Colour.{Colour}
use Rattle.c960_board.specs.declared.piece.Colour.TheVariants.{White, Black}
use Rattle.c960_board.specs.declared.piece.Kind.{Kind}
use Rattle.c960_board.specs.declared.piece.Kind.TheVariants.{Pawn, Knight, Bishop, Rook, Queen, King}
use Rattle.c960_board.specs.Squares.{rank_of}
use Rattle.c960_board.specs.Pieces.{Cell, man}
use Rattle.c960_board.specs.Cells.{cell_at}
use Rattle.c960_rules.specs.Lines.{file_distance, rank_distance, same_rank, same_file, same_diagonal, on_line, between}

-- The squares differ and are on one rank, file or diagonal, and every square strictly between is empty (3.5).
pub record Clear (cells : List Cell) (s t : ℕ) : Type 0 where
  pub differ : s ≢ t
  pub line : IsTrue (on_line s t)
  pub vacant : (u : ℕ) → u < 64 → IsTrue (between s u t) → cell_at cells u ≡ None

-- the rank of t is one rank forward from that of s
abbrev pub IsForward : Colour → ℕ → ℕ → Type 0
IsForward White s t = rank_of t ≡ rank_of s + 1
IsForward Black s t = rank_of s ≡ rank_of t + 1

-- How a piece of that colour and kind on s attacks t: the bishop (3.2), the rook (3.3), the queen (3.4), the knight (3.6),
-- the pawn (3.7.3) and the king (3.8.1).
abbrev pub AttacksAs : List Cell → Colour → Kind → ℕ → ℕ → Type 0
AttacksAs cells c Pawn s t = (file_distance s t ≡ 1) × IsForward c s t
AttacksAs cells c Knight s t =
    ((file_distance s t ≡ 1) × (rank_distance s t ≡ 2)) ⊎ ((file_distance s t ≡ 2) × (rank_distance s t ≡ 1))
AttacksAs cells c Bishop s t = IsTrue (same_diagonal s t) × Clear cells s t
AttacksAs cells c Rook s t = IsTrue (same_rank s t || same_file s t) × Clear cells s t
AttacksAs cells c Queen s t = Clear cells s t
AttacksAs cells c King s t = max (file_distance s t) (rank_distance s t) ≡ 1

-- the piece on the square s attacks the square t
pub record Attacks (cells : List Cell) (s t : ℕ) : Type 0 where
  pub colour : Colour
  pub kind : Kind
  pub piece : cell_at cells s ≡ man colour kind
  pub way : AttacksAs cells colour kind s t

-- some square holds a piece of the colour that attacks the square t
pub record AttackedBy (cells : List Cell) (c : Colour) (t : ℕ) : Type 0 where
  pub from : ℕ
  pub kind : Kind
  pub on_board : from < 64
  pub piece : cell_at cells from ≡ man c kind
  pub way : AttacksAs cells c kind from t
