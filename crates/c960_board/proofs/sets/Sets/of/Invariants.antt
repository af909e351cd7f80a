use Rattle.c960_board.proofs.SetsBelow.{AreSetsTo}
use Rattle.c960_board.proofs.sets.Sets.of.Given as goal

abbrev pub invariant-loop-number : goal.invariant-loop-number
invariant-loop-number l = AreSetsTo l.placement l.number l.sets
