use Rattle.c960_board.specs.declared.piece.Kind.TheVariants.{Knight, Bishop, Rook, Queen}
use Rattle.c960_rules.proofs.GoalFacts.{reaches_due}
use Rattle.c960_rules.proofs.any.has_promotion.Goals as goal

pub is_legal_at-requires-clause-reaches : goal.is_legal_at-requires-clause-reaches
is_legal_at-requires-clause-reaches c = reaches_due c.args.position.now c.args.from c.args.to Knight c.requires.goes c.requires.promotes

pub is_legal_at-requires-else-is_legal_at-clause-reaches : goal.is_legal_at-requires-else-is_legal_at-clause-reaches
is_legal_at-requires-else-is_legal_at-clause-reaches c = reaches_due c.args.position.now c.args.from c.args.to Bishop c.requires.goes c.requires.promotes

pub is_legal_at-requires-else-is_legal_at-2-clause-reaches : goal.is_legal_at-requires-else-is_legal_at-2-clause-reaches
is_legal_at-requires-else-is_legal_at-2-clause-reaches c = reaches_due c.args.position.now c.args.from c.args.to Rook c.requires.goes c.requires.promotes

pub is_legal_at-requires-else-is_legal_at-3-clause-reaches : goal.is_legal_at-requires-else-is_legal_at-3-clause-reaches
is_legal_at-requires-else-is_legal_at-3-clause-reaches c = reaches_due c.args.position.now c.args.from c.args.to Queen c.requires.goes c.requires.promotes
