use Rattle.c960_rules.proofs.AttackerFacts.{attackers_join}
use Rattle.c960_rules.proofs.attack_sets.attackers_over.Goals as goal

pub returns : goal.returns
returns c =
    attackers_join c.args.position.now.placement c.args.occupied c.args.by c.args.square c.leapers-leapers.result
    c.sliders-sliders.result c.free_from.result c.leapers-leapers.ensures c.sliders-sliders.ensures c.free_from.ensures
