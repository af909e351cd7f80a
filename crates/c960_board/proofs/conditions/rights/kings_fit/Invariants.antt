use Rattle.std.proofs.Common.{◌≡◌, ◌<◌, ℕ}
use Rattle.c960_board.specs.Inner.Conditions.{RightsFitKing}
use Rattle.c960_board.specs.Pieces.{man}
use Rattle.c960_board.specs.Cells.{cell_at}
use Rattle.c960_board.specs.declared.piece.Kind.TheVariants.{King}
use Rattle.c960_board.proofs.conditions.rights.kings_fit.Given as goal

abbrev pub invariant-loop-square : goal.invariant-loop-square
invariant-loop-square l = (s : ℕ) → s < l.square → cell_at l.placement s ≡ man l.colour King → RightsFitKing l.rights l.colour s
