use Rattle.std.proofs.Common.{arith}
use Rattle.c960_rules.proofs.RayFacts.{highest_is}
use Rattle.c960_rules.proofs.rays.highest_or_first.Goals as goal

pub overflow_sub-result : goal.overflow_sub-result
overflow_sub-result c = let is = highest_is c.args.set c.ranges.set.fits in omega arith

pub returns : goal.returns
returns c =
    let is = highest_is c.args.set c.ranges.set.fits in
    record { bound = omega arith; greatest = is.1; inside = is.2 }
