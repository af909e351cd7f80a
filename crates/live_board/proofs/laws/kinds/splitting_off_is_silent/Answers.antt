use Rattle.live_board.proofs.Handing.{splits_off, splits_off_nothing}
use Rattle.live_board.proofs.laws.kinds.splitting_off_is_silent.Goals as goal

pub returns-clause-part : goal.returns-clause-part
returns-clause-part c = splits_off

pub returns-clause-nothing : goal.returns-clause-nothing
returns-clause-nothing c = splits_off_nothing
