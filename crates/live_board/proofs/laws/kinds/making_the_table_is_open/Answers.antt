use Rattle.live_board.proofs.Opening.{makes_the_table}
use Rattle.live_board.proofs.laws.kinds.making_the_table_is_open.Goals as goal

pub returns : goal.returns
returns c = makes_the_table
