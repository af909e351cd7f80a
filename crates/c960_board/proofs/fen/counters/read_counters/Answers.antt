use Rattle.c960_board.proofs.Reading.Counters.{number_is_not_zero}
use Rattle.c960_board.proofs.fen.counters.read_counters.Goals as goal

pub returns-then-number-eq0 : goal.returns-then-number-eq0
returns-then-number-eq0 c = λ h n. number_is_not_zero _ _ h n _ c.if-number-eq0.true c.in_ok-number.ensures
