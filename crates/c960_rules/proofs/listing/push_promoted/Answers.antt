use Rattle.c960_board.specs.declared.piece.Kind.TheVariants.{Knight, Bishop, Rook, Queen}
use Rattle.c960_rules.proofs.GoalFacts.{reaches_due}
use Rattle.c960_rules.proofs.ListFacts.{promotions_after}
use Rattle.c960_rules.proofs.listing.push_promoted.Goals as goal

pub push_safe-requires-clause-reaches : goal.push_safe-requires-clause-reaches
push_safe-requires-clause-reaches c = reaches_due c.args.position.now c.args.from c.args.to Knight c.requires.goes c.requires.promotes

pub push_safe-requires-2-clause-reaches : goal.push_safe-requires-2-clause-reaches
push_safe-requires-2-clause-reaches c = reaches_due c.args.position.now c.args.from c.args.to Bishop c.requires.goes c.requires.promotes

pub push_safe-requires-3-clause-reaches : goal.push_safe-requires-3-clause-reaches
push_safe-requires-3-clause-reaches c = reaches_due c.args.position.now c.args.from c.args.to Rook c.requires.goes c.requires.promotes

pub push_safe-requires-4-clause-reaches : goal.push_safe-requires-4-clause-reaches
push_safe-requires-4-clause-reaches c = reaches_due c.args.position.now c.args.from c.args.to Queen c.requires.goes c.requires.promotes

pub returns : goal.returns
returns c =
    promotions_after _ _ _ _ _ c.args.position.now c.args.from c.args.to c.in_ok-push_safe.ensures
    c.in_ok-push_safe-2.ensures c.in_ok-push_safe-3.ensures c.in_ok-push_safe-4.ensures
