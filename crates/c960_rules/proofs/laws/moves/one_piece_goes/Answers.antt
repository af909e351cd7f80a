use Rattle.c960_rules.proofs.CarryLaws.{carries_one}
use Rattle.c960_rules.proofs.laws.moves.one_piece_goes.Goals as goal

pub returns : goal.returns
returns c = carries_one
