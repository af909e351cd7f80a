use Rattle.c960_game.proofs.lemmas.LogFacts.{over}
use Rattle.c960_game.proofs.laws.games.the_end_is_the_end.Goals as goal

pub returns : goal.returns
returns c = over
