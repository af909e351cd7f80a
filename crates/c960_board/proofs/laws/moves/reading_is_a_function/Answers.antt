use Rattle.c960_board.proofs.lemmas.MoveReading.{move_is_read, read_is_move, fault_is_read, read_is_fault, read_of_front}
use Rattle.c960_board.proofs.laws.moves.reading_is_a_function.Goals as goal

pub returns-clause-ok : goal.returns-clause-ok
returns-clause-ok c = λ text m. (read_is_move m text, move_is_read m text)

pub returns-clause-fault : goal.returns-clause-fault
returns-clause-fault c = λ text f. (read_is_fault f text, fault_is_read f text)

pub returns-clause-cut : goal.returns-clause-cut
returns-clause-cut c = read_of_front
