use Rattle.c960_board.proofs.Reading.OneReading.{one_fault, no_fault}
use Rattle.c960_board.proofs.laws.reading.one_fault.Goals as goal

pub returns-clause-one : goal.returns-clause-one
returns-clause-one c = one_fault

pub returns-clause-no_position : goal.returns-clause-no_position
returns-clause-no_position c = no_fault
