use Rattle.live_board.proofs.Checking.{closes_a_cursor}
use Rattle.live_board.proofs.laws.kinds.closing_a_cursor_is_close_or_silent.Goals as goal

pub returns : goal.returns
returns c = closes_a_cursor
