use Rattle.live_board.proofs.EventFacts.{shared, has_stretch, end_stays}
use Rattle.live_board.proofs.laws.shared.shared_laws.Goals as goal

pub returns-clause-start : goal.returns-clause-start
returns-clause-start c limits events now runs = (shared limits events now runs).game.numbered

pub returns-clause-log : goal.returns-clause-log
returns-clause-log c limits events now runs = let h = shared limits events now runs in (h.game, h.room)

pub returns-clause-outcome : goal.returns-clause-outcome
returns-clause-outcome c limits events now runs = (shared limits events now runs).ended

pub returns-clause-stretch : goal.returns-clause-stretch
returns-clause-stretch c = has_stretch

pub returns-clause-near : goal.returns-clause-near
returns-clause-near c limits events now runs k f e = ((shared limits events now runs).slots k f e).1.near

pub returns-clause-closing : goal.returns-clause-closing
returns-clause-closing c limits events now runs k f e = ((shared limits events now runs).slots k f e).1.closed

pub returns-clause-end : goal.returns-clause-end
returns-clause-end c = end_stays
