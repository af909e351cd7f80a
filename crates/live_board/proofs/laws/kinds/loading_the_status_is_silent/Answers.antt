use Rattle.live_board.proofs.Looking.{loads_the_status}
use Rattle.live_board.proofs.laws.kinds.loading_the_status_is_silent.Goals as goal

pub returns : goal.returns
returns c = loads_the_status
