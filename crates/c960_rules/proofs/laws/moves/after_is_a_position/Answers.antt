use Rattle.c960_rules.proofs.lemmas.AfterFacts.{after_position, after_lawful}
use Rattle.c960_rules.proofs.laws.moves.after_is_a_position.Goals as goal

pub returns-clause-position : goal.returns-clause-position
returns-clause-position c = after_position

pub returns-clause-lawful : goal.returns-clause-lawful
returns-clause-lawful c = after_lawful
