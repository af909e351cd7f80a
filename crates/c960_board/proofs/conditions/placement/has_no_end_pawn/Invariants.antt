use Rattle.std.proofs.Common.{◌≢◌, ◌<◌, ℕ}
use Rattle.c960_board.specs.Pieces.{man}
use Rattle.c960_board.specs.Cells.{cell_at}
use Rattle.c960_board.specs.Squares.{rank_of, IsEndRank}
use Rattle.c960_board.specs.declared.piece.Kind.TheVariants.{Pawn}
use Rattle.c960_board.proofs.conditions.placement.has_no_end_pawn.Given as goal

abbrev pub invariant-loop-square : goal.invariant-loop-square
invariant-loop-square l = (s : ℕ) → s < l.square → IsEndRank (rank_of s) → cell_at l.placement s ≢ man l.colour Pawn
