use Rattle.live_board.proofs.Leaving.{swaps_out}
use Rattle.live_board.proofs.laws.kinds.swapping_out_is_leave.Goals as goal

pub returns : goal.returns
returns c = swaps_out
