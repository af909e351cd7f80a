use Rattle.std.proofs.Common.{arith}
use Rattle.c960_rules.proofs.GoalFacts.{goal_tells}
use Rattle.c960_rules.proofs.listing.push_at.Goals as goal

pub push_reached-requires-clause-goes : goal.push_reached-requires-clause-goes
push_reached-requires-clause-goes c = goal_tells c.args.position.now c.args.from c.args.to c.requires.goals (omega arith) c.is_in.ensures c.if-is_in.true

pub push_castling-requires : goal.push_castling-requires
push_castling-requires c = goal_tells c.args.position.now c.args.from c.args.to c.requires.goals (omega arith) c.is_in.ensures c.if-is_in.false
