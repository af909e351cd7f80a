use Rattle.c960_rules.proofs.MoveLaws.{not_both_ways}
use Rattle.c960_rules.proofs.laws.moves.one_way_to_go.Goals as goal

pub returns : goal.returns
returns c = not_both_ways
