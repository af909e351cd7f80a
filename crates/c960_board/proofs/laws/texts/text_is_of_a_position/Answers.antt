use Rattle.c960_board.proofs.Written.Laws.{text_of_position}
use Rattle.c960_board.proofs.laws.texts.text_is_of_a_position.Goals as goal

pub returns : goal.returns
returns c = text_of_position
