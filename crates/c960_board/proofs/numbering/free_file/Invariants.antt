use Rattle.std.proofs.Common.{◌≡◌, ◌+◌, drop}
use Rattle.c960_board.specs.Array.{free_file}
use Rattle.c960_board.proofs.numbering.free_file.Given as goal

abbrev pub invariant-loop-file : goal.invariant-loop-file
invariant-loop-file l = free_file l.rank l.place ≡ l.file + free_file (drop l.file l.rank) l.left
