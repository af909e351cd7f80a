use Rattle.c960_rules.proofs.lemmas.ProgressLaws.{advances}
use Rattle.c960_rules.proofs.laws.moves.moves_advance.Goals as goal

pub returns : goal.returns
returns c = advances
