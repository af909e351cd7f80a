use Rattle.c960_board.proofs.Written.Lengths.{canonical_short}
use Rattle.c960_board.proofs.laws.texts.written_is_short.Goals as goal

pub returns : goal.returns
returns c = canonical_short
