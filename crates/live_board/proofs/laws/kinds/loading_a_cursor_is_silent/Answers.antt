use Rattle.live_board.proofs.Checking.{loads_a_cursor}
use Rattle.live_board.proofs.laws.kinds.loading_a_cursor_is_silent.Goals as goal

pub returns : goal.returns
returns c = loads_a_cursor
