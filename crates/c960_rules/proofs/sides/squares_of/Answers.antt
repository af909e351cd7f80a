use Rattle.std.proofs.Common.{ap, ◌∙◌}
use Rattle.c960_board.specs.Sets.{colour_set}
use Rattle.c960_rules.proofs.AttackerFacts.{side_where}
use Rattle.c960_rules.proofs.sides.squares_of.Goals as goal

pub returns : goal.returns
returns c =
    side_where c.args.colour c.args.position.now.placement c.colour.result c.sets.ensures.valid.placement.full
    (c.colour.ensures ∙ ap (colour_set c.args.colour) c.sets.ensures.value)
