-- The moves, their codes and their texts, as UCI writes them with UCI_Chess960.
use Rattle.std.specs.Prelude.{ℕ, ◌<◌, Option, Some, None, Bool, true, false, IsTrue}
use Rattle.c960_board.specs.declared.piece.Kind.{Kind}
use Rattle.c960_board.specs.declared.piece.Kind.TheVariants.{Pawn, Knight, Bishop, Rook, Queen, King}

-- What contracts see of a move: the square that it leaves, the square that it goes to (in castling the king's and its
-- rook's), and what a pawn is promoted to.
pub record Triple : Type 0 where
  pub from : ℕ
  pub to : ℕ
  pub promotion : Option Kind

-- no promotion, or one to a knight, a bishop, a rook or a queen
abbrev pub is_promotion : Option Kind → Bool
is_promotion None = true
is_promotion (Some Knight) = true
is_promotion (Some Bishop) = true
is_promotion (Some Rook) = true
is_promotion (Some Queen) = true
is_promotion (Some Pawn) = false
is_promotion (Some King) = false

-- what is true of every move, legal or not
pub record IsMove (m : Triple) : Type 0 where
  pub from : m.from < 64
  pub to : m.to < 64
  pub promotion : IsTrue (is_promotion m.promotion)
