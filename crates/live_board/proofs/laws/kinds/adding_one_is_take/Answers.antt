use Rattle.live_board.proofs.Taking.{adds_one}
use Rattle.live_board.proofs.laws.kinds.adding_one_is_take.Goals as goal

pub returns : goal.returns
returns c = adds_one
