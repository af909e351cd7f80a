use Rattle.live_board.proofs.Publishing.{stores_a_move}
use Rattle.live_board.proofs.laws.kinds.storing_a_move_is_silent.Goals as goal

pub returns : goal.returns
returns c = stores_a_move
