use Rattle.live_board.proofs.Handing.{joins_parts}
use Rattle.live_board.proofs.laws.kinds.joining_parts_is_silent.Goals as goal

pub returns : goal.returns
returns c = joins_parts
