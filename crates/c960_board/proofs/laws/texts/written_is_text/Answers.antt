use Rattle.c960_board.proofs.Written.Laws.{canonical_is_text}
use Rattle.c960_board.proofs.laws.texts.written_is_text.Goals as goal

pub returns : goal.returns
returns c = canonical_is_text
