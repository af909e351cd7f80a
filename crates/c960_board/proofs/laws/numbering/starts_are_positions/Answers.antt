use Rattle.c960_board.proofs.lemmas.StartFacts.{start_is_position}
use Rattle.c960_board.proofs.laws.numbering.starts_are_positions.Goals as goal

pub returns : goal.returns
returns c = start_is_position
