use Rattle.c960_rules.proofs.RayFacts.{falling_is}
use Rattle.c960_rules.proofs.rays.falling.Goals as goal

pub returns : goal.returns
returns c =
    let first = c.highest_or_first.ensures in
    falling_is c.args.ray c.args.occupied c.highest_or_first.result c.ranges.ray.fits c.ranges.occupied.fits first.bound first.greatest first.inside
    c.onward.ensures
