use Rattle.c960_rules.proofs.CastlingLaws.{castled_rightly, no_right_left}
use Rattle.c960_rules.proofs.laws.moves.castling_goals.Goals as goal

pub returns-clause-goals : goal.returns-clause-goals
returns-clause-goals c = castled_rightly

pub returns-clause-no_right : goal.returns-clause-no_right
returns-clause-no_right c = no_right_left
