use Rattle.live_board.proofs.Publishing.{stores_the_length, stores_the_outcome}
use Rattle.live_board.proofs.laws.kinds.storing_the_status_is_submit_or_end.Goals as goal

pub returns-clause-submit : goal.returns-clause-submit
returns-clause-submit c = stores_the_length

pub returns-clause-end : goal.returns-clause-end
returns-clause-end c = stores_the_outcome
