-- Check, as a test that computes.
use Rattle.std.specs.Prelude.{Bool, true, false, List}
use Rattle.std.specs.List.{list_any}
use Rattle.c960_board.specs.declared.piece.Colour.{Colour}
use Rattle.c960_board.specs.declared.piece.Kind.TheVariants.{King}
use Rattle.c960_board.specs.Pieces.{Cell, other, holds}
use Rattle.c960_board.specs.Cells.{cell_at}
use Rattle.c960_rules.specs.Lines.{squares}
use Rattle.c960_rules.specs.Tests.Attacks.{attacked_by}

unfoldable pub in_check : List Cell → Colour → Bool
in_check cells c =
    list_any (λ s. elim (holds c King (cell_at cells s)) [ true ↦ attacked_by cells (other c) s | false ↦ false ]) squares
