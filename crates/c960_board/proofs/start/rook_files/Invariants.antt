use Rattle.std.proofs.Common.{◌≡◌, take, length}
use Rattle.c960_board.specs.Start.{rook_files}
use Rattle.c960_board.proofs.start.rook_files.Given as goal

abbrev pub invariant-loop-file : goal.invariant-loop-file
invariant-loop-file l = record {
  full : length l.files ≡ 8;
  so_far : take l.file l.files ≡ rook_files (take l.file l.rank);
}
