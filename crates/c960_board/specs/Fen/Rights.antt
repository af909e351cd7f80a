-- The text of the castling rights, which come in any order.
use Rattle.std.specs.Prelude.{ℕ, ◌≡◌, ◌<◌, ◌==◌, ◌⊎◌, List, Bool, true, false, count_by, length, slice_index}
use Rattle.c960_board.specs.declared.piece.Colour.{Colour}
use Rattle.c960_board.specs.declared.rights.CastlingRights.{CastlingRights}
use Rattle.c960_board.specs.Pieces.{Cell}
use Rattle.c960_board.specs.Position.{AreRights}
use Rattle.c960_board.specs.Cells.{has_right}
use Rattle.c960_board.specs.Fen.Letters.{right_letter, dash}

-- how often a byte occurs in a text
abbrev pub times : ℕ → List ℕ → ℕ
times b text = count_by (λ x. x == b) text

-- once if the right is held, and otherwise never
abbrev pub once : Bool → ℕ
once true = 1
once false = 0

-- a side and a file, the rook's
pub record IsRightLetter (b : ℕ) : Type 0 where
  pub colour : Colour
  pub file : ℕ
  pub on_board : file < 8
  pub letter : b ≡ right_letter colour file

-- each held right's letter once, and no other byte
pub record SpellsRights (text : List ℕ) (r : CastlingRights) : Type 0 where
  pub some : 0 < length text
  pub letters : (k : ℕ) → k < length text → IsRightLetter (slice_index text k)
  pub each : (c : Colour) (f : ℕ) → f < 8 → times (right_letter c f) text ≡ once (has_right r c f)

-- a dash for no rights
pub record SpellsNoRights (text : List ℕ) (r : CastlingRights) : Type 0 where
  pub is_dash : text ≡ dash
  pub none : (c : Colour) (f : ℕ) → has_right r c f ≡ false

-- the field of rights that fit the placement
pub record IsRightsField (cells : List Cell) (text : List ℕ) (r : CastlingRights) : Type 0 where
  pub spelt : SpellsNoRights text r ⊎ SpellsRights text r
  pub rights : (c : Colour) → AreRights cells r c
