use Rattle.std.proofs.Common.{◌||◌}
use Rattle.c960_rules.specs.Tests.Reaches.{steps, steps_twice, takes}
use Rattle.c960_rules.specs.Inner.Listing.{pawn_goes}
use Rattle.c960_rules.proofs.WhereFacts.{where_or}
use Rattle.c960_rules.proofs.goals.pawn_goals.Goals as goal

pub returns : goal.returns
unfolding pawn_goes
returns c =
    let p = c.args.position.now in
    let s = c.args.from in
    where_or (λ t. steps p.placement p.turn s t) (λ t. steps_twice p.placement p.turn s t || takes p.placement p.turn p.target s t)
    c.single_step.result _ c.single_step.ensures
    (where_or (λ t. steps_twice p.placement p.turn s t) (λ t. takes p.placement p.turn p.target s t) c.double_step.result c.prey.result
    c.double_step.ensures c.prey.ensures)
