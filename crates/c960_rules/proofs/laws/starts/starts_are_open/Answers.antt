use Rattle.c960_rules.proofs.lemmas.StartFacts.{start_is_lawful, start_has_no_check, start_has_move, start_is_no_mate, start_is_no_stalemate}
use Rattle.c960_rules.proofs.laws.starts.starts_are_open.Goals as goal

pub returns-clause-lawful : goal.returns-clause-lawful
returns-clause-lawful c = start_is_lawful

pub returns-clause-no_check : goal.returns-clause-no_check
returns-clause-no_check c = start_has_no_check

pub returns-clause-some_move : goal.returns-clause-some_move
returns-clause-some_move c = start_has_move

pub returns-clause-no_mate : goal.returns-clause-no_mate
returns-clause-no_mate c = start_is_no_mate

pub returns-clause-no_stalemate : goal.returns-clause-no_stalemate
returns-clause-no_stalemate c = start_is_no_stalemate
