use Rattle.c960_game.proofs.lemmas.LogFacts.{start_alone, game_positions_more, last_more}
use Rattle.c960_game.proofs.laws.games.positions_are_determined.Goals as goal

pub returns-clause-start : goal.returns-clause-start
returns-clause-start c = start_alone

pub returns-clause-more : goal.returns-clause-more
returns-clause-more c = game_positions_more

pub returns-clause-last : goal.returns-clause-last
returns-clause-last c = last_more
