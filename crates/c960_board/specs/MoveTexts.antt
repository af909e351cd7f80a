-- The codes and the texts of moves, as UCI writes them with UCI_Chess960, and the faults of a text.
use Rattle.std.specs.Prelude.{ℕ, ◌≡◌, ◌<◌, ◌+◌, ◌*◌, ◌⊎◌, List, [], ◌∷◌, ◌++◌, length, take, drop, Option, Some, IsTrue, codes}
use Rattle.c960_board.specs.declared.piece.Kind.{Kind}
use Rattle.c960_board.specs.declared.piece.Kind.TheVariants.{Knight, Bishop, Rook, Queen}
use Rattle.c960_board.specs.declared.moves.fault.MoveFault.{MoveFault}
use Rattle.c960_board.specs.declared.moves.fault.MoveFault.TheVariants.{Length, Square, Promotion}
use Rattle.c960_board.specs.Squares.{file_of, rank_of}
use Rattle.c960_board.specs.Moves.{IsMove, Triple, is_promotion}

-- 0 none, 1 knight, 2 bishop, 3 rook, 4 queen
abbrev pub promotion_code : Option Kind → ℕ
promotion_code (Some Knight) = 1
promotion_code (Some Bishop) = 2
promotion_code (Some Rook) = 3
promotion_code (Some Queen) = 4
promotion_code _ = 0

abbrev pub move_code : Triple → ℕ
move_code m = m.from + 64 * m.to + 4096 * promotion_code m.promotion

-- a file letter a to h and a rank digit 1 to 8
abbrev pub square_text : ℕ → List ℕ
square_text s = (97 + file_of s) ∷ (49 + rank_of s) ∷ []

-- n, b, r or q, and nothing without a promotion
abbrev pub promotion_text : Option Kind → List ℕ
promotion_text (Some Knight) = 110 ∷ []
promotion_text (Some Bishop) = 98 ∷ []
promotion_text (Some Rook) = 114 ∷ []
promotion_text (Some Queen) = 113 ∷ []
promotion_text _ = []

abbrev pub move_text : Triple → List ℕ
move_text m = square_text m.from ++ (square_text m.to ++ promotion_text m.promotion)

-- the text is the move's
pub record MoveText (m : Triple) (text : List ℕ) : Type 0 where
  pub move : IsMove m
  pub spelt : text ≡ move_text m

abbrev pub move_fault_code : MoveFault → ℕ
move_fault_code Length = 1
move_fault_code Square = 2
move_fault_code Promotion = 3

abbrev pub move_fault_name : MoveFault → List ℕ
move_fault_name Length = codes "Length"
move_fault_name Square = codes "Square"
move_fault_name Promotion = codes "Promotion"

-- four or five bytes
abbrev pub HasMoveLength : List ℕ → Type 0
HasMoveLength text = (length text ≡ 4) ⊎ (length text ≡ 5)

-- the first four bytes are the texts of two squares
pub record BeginsWithSquares (text : List ℕ) : Type 0 where
  pub from : ℕ
  pub to : ℕ
  pub from_on_board : from < 64
  pub to_on_board : to < 64
  pub spelt : take 4 text ≡ square_text from ++ square_text to

-- the fault is the first one of the text
abbrev pub IsMoveFault : MoveFault → List ℕ → Type 0
IsMoveFault Length text = HasMoveLength text → ⊥
IsMoveFault Square text = HasMoveLength text × (BeginsWithSquares text → ⊥)
IsMoveFault Promotion text =
    HasMoveLength text × BeginsWithSquares text
    × ((promotion : Option Kind) → IsTrue (is_promotion promotion) → drop 4 text ≡ promotion_text promotion → ⊥)
