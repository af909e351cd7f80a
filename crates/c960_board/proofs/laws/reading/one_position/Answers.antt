use Rattle.c960_board.proofs.Reading.OneReading.{one_position}
use Rattle.c960_board.proofs.laws.reading.one_position.Goals as goal

pub returns : goal.returns
returns c = one_position
