use Rattle.std.proofs.Common.{sym, ◌∙◌}
use Rattle.c960_rules.proofs.GoalFacts.{reaches_plain}
use Rattle.c960_rules.proofs.any.has_move_reached.Goals as goal

pub is_legal_at-requires-clause-reaches : goal.is_legal_at-requires-clause-reaches
is_legal_at-requires-clause-reaches c =
    reaches_plain c.args.position.now c.args.from c.args.to c.requires (sym c.promotes.ensures ∙ c.if-promotes.false)
