use Rattle.std.proofs.Common.{None}
use Rattle.c960_rules.proofs.GoalFacts.{off_goals}
use Rattle.c960_rules.proofs.any.has_castling.Goals as goal

pub is_legal_castling-requires : goal.is_legal_castling-requires
is_legal_castling-requires c = off_goals c.args.position.now c.args.from c.args.to None c.requires
