use Rattle.std.proofs.Common.{◌≡◌, take, map, unwrap_or, length}
use Rattle.c960_board.specs.declared.piece.Kind.TheVariants.{Pawn}
use Rattle.c960_board.proofs.numbering.kinds_of.Given as goal

abbrev pub invariant-loop-file : goal.invariant-loop-file
invariant-loop-file l = record {
  full : length l.kinds ≡ 8;
  so_far : take l.file l.kinds ≡ map (λ square. unwrap_or square Pawn) (take l.file l.rank);
}
