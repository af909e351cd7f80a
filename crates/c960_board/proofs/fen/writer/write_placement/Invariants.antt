use Rattle.std.proofs.Common.{◌≡◌, ◌≤◌, ◌+◌, ◌++◌, ◌-◌, length, take}
use Rattle.c960_board.specs.Fen.Canonical.{ranks_text}
use Rattle.c960_board.specs.Sets.{cells_of}
use Rattle.c960_board.proofs.Written.RankCells.{lower_cells}
use Rattle.c960_board.proofs.fen.writer.write_placement.Given as goal

abbrev pub invariant-loop-rank : goal.invariant-loop-rank
invariant-loop-rank l = record {
  text : ranks_text 7 (cells_of l.sets) ≡ take l.end l.bytes ++ ranks_text (l.rank - 1) (lower_cells l.sets l.rank);
  end : l.end + length (ranks_text (l.rank - 1) (lower_cells l.sets l.rank)) ≡ length (ranks_text 7 (cells_of l.sets));
  left : 1 ≤ l.rank;
}
