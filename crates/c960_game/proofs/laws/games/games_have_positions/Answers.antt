use Rattle.c960_game.proofs.Bounds.{half_moves_bound, number_bound}
use Rattle.c960_game.proofs.lemmas.GameFacts.{last_is_position, last_is_lawful}
use Rattle.c960_game.proofs.laws.games.games_have_positions.Goals as goal

pub returns-clause-position : goal.returns-clause-position
returns-clause-position c = last_is_position

pub returns-clause-lawful : goal.returns-clause-lawful
returns-clause-lawful c = last_is_lawful

pub returns-clause-half_moves : goal.returns-clause-half_moves
returns-clause-half_moves c = half_moves_bound

pub returns-clause-number : goal.returns-clause-number
returns-clause-number c = number_bound
