use Rattle.c960_game.proofs.lemmas.MoveFacts.{legal_move_tells, legal_move_from}
use Rattle.c960_game.proofs.laws.joins.is_legal_move_tests_moves.Goals as goal

pub returns : goal.returns
returns c = λ p m. (legal_move_tells p m, legal_move_from p m)
