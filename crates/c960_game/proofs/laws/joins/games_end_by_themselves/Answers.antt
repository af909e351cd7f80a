use Rattle.c960_game.proofs.lemmas.DrawFacts.{going, tells_going, from_going, checkmate, stalemate, fivefold, seventy_five}
use Rattle.c960_game.proofs.laws.joins.games_end_by_themselves.Goals as goal

pub returns-clause-going : goal.returns-clause-going
returns-clause-going c = going

pub returns-clause-goes_on : goal.returns-clause-goes_on
returns-clause-goes_on c = λ n l. (tells_going n l, from_going n l)

pub returns-clause-checkmate : goal.returns-clause-checkmate
returns-clause-checkmate c = checkmate

pub returns-clause-stalemate : goal.returns-clause-stalemate
returns-clause-stalemate c = stalemate

pub returns-clause-fivefold : goal.returns-clause-fivefold
returns-clause-fivefold c = fivefold

pub returns-clause-seventy_five : goal.returns-clause-seventy_five
returns-clause-seventy_five c = seventy_five
