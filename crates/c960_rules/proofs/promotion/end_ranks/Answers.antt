use Rattle.std.proofs.Common.{refl}
use Rattle.c960_rules.specs.Inner.Wheres.{where_set}
use Rattle.c960_rules.proofs.promotion.end_ranks.Goals as goal

pub returns : goal.returns
unfolding where_set
returns c = refl
