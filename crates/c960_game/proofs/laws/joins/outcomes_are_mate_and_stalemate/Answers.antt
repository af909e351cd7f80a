use Rattle.c960_game.proofs.EndFacts.{going, checkmate, stalemate}
use Rattle.c960_game.proofs.laws.joins.outcomes_are_mate_and_stalemate.Goals as goal

pub returns-clause-going : goal.returns-clause-going
returns-clause-going c = going

pub returns-clause-checkmate : goal.returns-clause-checkmate
returns-clause-checkmate c = checkmate

pub returns-clause-stalemate : goal.returns-clause-stalemate
returns-clause-stalemate c = stalemate
