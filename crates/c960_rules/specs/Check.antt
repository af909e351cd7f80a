-- Check (FIDE Laws, Article 3.9.1).
use Rattle.std.specs.Prelude.{ℕ, ◌≡◌, ◌<◌, List}
use Rattle.c960_board.specs.declared.piece.Colour.{Colour}
use Rattle.c960_board.specs.declared.piece.Kind.TheVariants.{King}
use Rattle.c960_board.specs.declared.parts.Parts.{Parts}
use Rattle.c960_board.specs.Pieces.{Cell, man, other}
use Rattle.c960_board.specs.Cells.{cell_at}
use Rattle.c960_rules.specs.Attacks.{AttackedBy}

-- a king of the side is attacked by the other side
pub record InCheck (cells : List Cell) (c : Colour) : Type 0 where
  pub square : ℕ
  pub on_board : square < 64
  pub king : cell_at cells square ≡ man c King
  pub attack : AttackedBy cells (other c) square

-- the side that does not have the move is not in check
abbrev pub IsLawful : Parts → Type 0
IsLawful p = InCheck p.placement (other p.turn) → ⊥
