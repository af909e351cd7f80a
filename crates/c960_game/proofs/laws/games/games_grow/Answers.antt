use Rattle.c960_game.proofs.lemmas.LogFacts.{no_move, one_move_more}
use Rattle.c960_game.proofs.lemmas.GameFacts.{start_goes_on}
use Rattle.c960_game.proofs.laws.games.games_grow.Goals as goal

pub returns-clause-start : goal.returns-clause-start
returns-clause-start c = no_move

pub returns-clause-going : goal.returns-clause-going
returns-clause-going c = start_goes_on

pub returns-clause-more : goal.returns-clause-more
returns-clause-more c = one_move_more
