use Rattle.std.proofs.Common.{◌∙◌, ◌++◌, ◌∷◌, [], ap, sym, arith, List}
use Rattle.std.proofs.lemmas.List.{take_more_set}
use Rattle.std.proofs.lemmas.Grind.{common_steps}
use Rattle.c960_board.specs.Pieces.{Cell}
use Rattle.c960_board.specs.Start.{start_cells}
use Rattle.c960_board.proofs.lemmas.StartFacts.{start_cells_more}
use Rattle.c960_board.proofs.start.start_cells.Goals as goal

pub loop-square-preserved : goal.loop-square-preserved
loop-square-preserved c = record {
  full = grind (arith, common_steps);
  so_far =
      take_more_set c.loop-square.cells c.loop-square.square c.start_cell.result (omega arith)
      ∙ ap (λ (x : List Cell). x ++ c.start_cell.result ∷ []) c.loop-square.invariant.so_far
      ∙ ap (λ (y : Cell). start_cells c.args.rank.now c.loop-square.square ++ y ∷ []) c.start_cell.ensures
      ∙ sym (start_cells_more _ _);
}
