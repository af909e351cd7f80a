use Rattle.c960_rules.proofs.AttackAgree.{attackers_are, attacker_bit}
use Rattle.c960_rules.proofs.attack_sets.attackers.Goals as goal

pub returns : goal.returns
returns c =
    let p = c.args.position.now.placement in
    let set =
    attackers_are p c.occupied.result c.args.by c.args.square c.attackers_over.result c.sets-sets.ensures.valid.placement.full
    c.occupied.ensures.set c.attackers_over.ensures in
    record { set = set; bits = λ s l. attacker_bit p c.args.by c.args.square c.attackers_over.result s set l }
