use Rattle.live_board.proofs.Looking.{loads_a_move}
use Rattle.live_board.proofs.laws.kinds.loading_a_move_is_silent.Goals as goal

pub returns : goal.returns
returns c = loads_a_move
