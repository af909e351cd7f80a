-- The text of the en passant target.
use Rattle.std.specs.Prelude.{ℕ, ◌≡◌, List, Option, Some, None}
use Rattle.c960_board.specs.declared.piece.Colour.{Colour}
use Rattle.c960_board.specs.Pieces.{Cell}
use Rattle.c960_board.specs.Position.{IsTarget}
use Rattle.c960_board.specs.MoveTexts.{square_text}
use Rattle.c960_board.specs.Fen.Letters.{dash}

-- a dash for none
abbrev pub target_text : Option ℕ → List ℕ
target_text None = dash
target_text (Some t) = square_text t

-- the field of a target that fits
pub record IsTargetField (cells : List Cell) (turn : Colour) (text : List ℕ) (target : Option ℕ) : Type 0 where
  pub spelt : text ≡ target_text target
  pub fits : (t : ℕ) → target ≡ Some t → IsTarget cells turn t
