use Rattle.live_board.proofs.Publishing.{stores_an_open_cursor}
use Rattle.live_board.proofs.laws.kinds.storing_an_open_cursor_is_follow.Goals as goal

pub returns : goal.returns
returns c = stores_an_open_cursor
