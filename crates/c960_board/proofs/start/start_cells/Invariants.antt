use Rattle.std.proofs.Common.{◌≡◌, take, length}
use Rattle.c960_board.specs.Start.{start_cells}
use Rattle.c960_board.proofs.start.start_cells.Given as goal

abbrev pub invariant-loop-square : goal.invariant-loop-square
invariant-loop-square l = record {
  full : length l.cells ≡ 64;
  so_far : take l.square l.cells ≡ start_cells l.rank l.square;
}
