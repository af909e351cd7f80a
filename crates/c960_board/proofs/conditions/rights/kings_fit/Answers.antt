use Rattle.std.proofs.Common.{below_more, rules}
use Rattle.c960_board.proofs.conditions.rights.kings_fit.Goals as goal

pub loop-square-preserved : goal.loop-square-preserved
loop-square-preserved c = below_more _ _ c.loop-square.invariant (c.fit_square.ensures.0 (search rules))
