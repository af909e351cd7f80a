use Rattle.c960_rules.proofs.RayFacts.{rising_is}
use Rattle.c960_rules.proofs.rays.rising.Goals as goal

pub returns : goal.returns
returns c = rising_is c.args.ray c.args.occupied c.ranges.ray.fits c.ranges.occupied.fits
