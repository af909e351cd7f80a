use Rattle.std.proofs.Common.{◌≡◌, ◌<◌, ℕ, IsTrue}
use Rattle.c960_board.specs.Pieces.{man}
use Rattle.c960_board.specs.Cells.{cell_at, has_right}
use Rattle.c960_board.specs.Squares.{home_square}
use Rattle.c960_board.specs.declared.piece.Kind.TheVariants.{Rook}
use Rattle.c960_board.proofs.conditions.rights.rooks_stand.Given as goal

abbrev pub invariant-loop-file : goal.invariant-loop-file
invariant-loop-file l = (f : ℕ) → f < l.file → IsTrue (has_right l.rights l.colour f) → cell_at l.placement (home_square l.colour f) ≡ man l.colour Rook
