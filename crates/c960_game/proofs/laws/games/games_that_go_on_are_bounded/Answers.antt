use Rattle.c960_game.proofs.lemmas.DrawFacts.{going_bounds, before_bounds}
use Rattle.c960_game.proofs.laws.games.games_that_go_on_are_bounded.Goals as goal

pub returns-clause-present : goal.returns-clause-present
returns-clause-present c = going_bounds

pub returns-clause-before : goal.returns-clause-before
returns-clause-before c = before_bounds
