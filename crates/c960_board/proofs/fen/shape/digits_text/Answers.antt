use Rattle.c960_board.proofs.Written.RankShape.{digits_entry}
use Rattle.c960_board.proofs.fen.shape.digits_text.Goals as goal

pub returns : goal.returns
returns c = digits_entry c.args.files c.requires
