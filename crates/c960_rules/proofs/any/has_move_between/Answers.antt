use Rattle.std.proofs.Common.{arith}
use Rattle.c960_rules.proofs.GoalFacts.{goal_tells}
use Rattle.c960_rules.proofs.any.has_move_between.Goals as goal

pub has_move_reached-requires : goal.has_move_reached-requires
has_move_reached-requires c = goal_tells c.args.position.now c.args.from c.args.to c.requires (omega arith) c.is_in.ensures c.if-is_in.true

pub has_castling-requires : goal.has_castling-requires
has_castling-requires c = goal_tells c.args.position.now c.args.from c.args.to c.requires (omega arith) c.is_in.ensures c.if-is_in.false
