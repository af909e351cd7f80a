-- Castling, written as a move from the king's square to its rook's (FIDE Laws, Article 3.8.2; Guidelines II.3).
use Rattle.std.specs.Prelude.{ℕ, ◌≡◌, ◌≢◌, ◌<◌, Bool, true, false, ◌&&◌, ◌||◌, nat_lt, not, None, IsTrue, min, max}
use Rattle.c960_board.specs.declared.piece.Colour.{Colour}
use Rattle.c960_board.specs.declared.piece.Kind.TheVariants.{King}
use Rattle.c960_board.specs.declared.parts.Parts.{Parts}
use Rattle.c960_board.specs.Squares.{file_of, home_square}
use Rattle.c960_board.specs.Pieces.{man, other}
use Rattle.c960_board.specs.Cells.{cell_at, has_right}
use Rattle.c960_board.specs.Moves.{Triple}
use Rattle.c960_rules.specs.Attacks.{AttackedBy}

-- the rook is on a higher file than the king
abbrev pub is_g_side : Triple → Bool
is_g_side m = nat_lt (file_of m.from) (file_of m.to)

-- the king goes to the g file (6) or the c file (2)
abbrev pub king_file : Bool → ℕ
king_file true = 6
king_file false = 2

-- the rook goes to the f file (5) or the d file (3)
abbrev pub rook_file : Bool → ℕ
rook_file true = 5
rook_file false = 3

abbrev pub king_goal : Colour → Triple → ℕ
king_goal c m = home_square c (king_file (is_g_side m))

abbrev pub rook_goal : Colour → Triple → ℕ
rook_goal c m = home_square c (rook_file (is_g_side m))

-- u is s, t or a square between them, if s and t are on one rank
abbrev pub spans : ℕ → ℕ → ℕ → Bool
spans s t u = not (nat_lt u (min s t)) && not (nat_lt (max s t) u)

-- u is on the king's way or on the rook's way
abbrev pub on_way : Colour → Triple → ℕ → Bool
on_way c m u = spans m.from (king_goal c m) u || spans m.to (rook_goal c m) u

-- The king's square and that of a rook with a right, so that both are on the home rank, as every position's rights say:
-- the squares of both ways are empty except for these two, and no square of the king's way is attacked. Whether the king is
-- attacked afterwards is a matter of `Legal`.
pub record Castles (p : Parts) (m : Triple) : Type 0 where
  pub king : cell_at p.placement m.from ≡ man p.turn King
  pub rook : m.to ≡ home_square p.turn (file_of m.to)
  pub right : IsTrue (has_right p.rights p.turn (file_of m.to))
  pub no_promotion : m.promotion ≡ None
  pub vacant : (u : ℕ) → u < 64 → IsTrue (on_way p.turn m u) → u ≢ m.from → u ≢ m.to → cell_at p.placement u ≡ None
  pub safe : (u : ℕ) → u < 64 → IsTrue (spans m.from (king_goal p.turn m) u) → AttackedBy p.placement (other p.turn) u → ⊥
