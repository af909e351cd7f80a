-- The lawful first ranks, independently of any number (Guidelines II.2).
use Rattle.std.specs.Prelude.{ℕ, ◌≡◌, ◌<◌, ◌%◌, List, Some, length, count_by, slice_get}
use Rattle.c960_board.specs.declared.piece.Kind.{Kind}
use Rattle.c960_board.specs.declared.piece.Kind.TheVariants.{Knight, Bishop, Rook, Queen, King}
use Rattle.c960_board.specs.Pieces.{same_kind}

-- how many pieces of a kind are on the rank
abbrev pub pieces_of : Kind → List Kind → ℕ
pieces_of k rank = count_by (λ x. same_kind x k) rank

-- a piece of the kind is on the file
abbrev pub Stands : Kind → List Kind → ℕ → Type 0
Stands k rank f = slice_get rank f ≡ Some k

-- there is a rook on each side of the king
pub record IsBetweenRooks (rank : List Kind) : Type 0 where
  pub left : ℕ
  pub king : ℕ
  pub right : ℕ
  pub beyond_left : left < king
  pub beyond_right : king < right
  pub left_rook : Stands Rook rank left
  pub between : Stands King rank king
  pub right_rook : Stands Rook rank right

-- the bishops are on squares of opposite colour: the files b, d, f and h of the first rank are light
pub record AreOppositeBishops (rank : List Kind) : Type 0 where
  pub light : ℕ
  pub dark : ℕ
  pub is_light : light % 2 ≡ 1
  pub is_dark : dark % 2 ≡ 0
  pub light_bishop : Stands Bishop rank light
  pub dark_bishop : Stands Bishop rank dark

pub record IsLawfulRank (rank : List Kind) : Type 0 where
  pub full : length rank ≡ 8
  pub one_king : pieces_of King rank ≡ 1
  pub one_queen : pieces_of Queen rank ≡ 1
  pub two_rooks : pieces_of Rook rank ≡ 2
  pub two_knights : pieces_of Knight rank ≡ 2
  pub two_bishops : pieces_of Bishop rank ≡ 2
  pub king : IsBetweenRooks rank
  pub bishops : AreOppositeBishops rank
