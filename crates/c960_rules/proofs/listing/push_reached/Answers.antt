use Rattle.std.proofs.Common.{sym, ◌∙◌}
use Rattle.c960_rules.proofs.GoalFacts.{reaches_plain}
use Rattle.c960_rules.proofs.listing.push_reached.Goals as goal

pub push_safe-requires-clause-reaches : goal.push_safe-requires-clause-reaches
push_safe-requires-clause-reaches c =
    reaches_plain c.args.position.now c.args.from c.args.to c.requires.goes (sym c.promotes.ensures ∙ c.if-promotes.false)
