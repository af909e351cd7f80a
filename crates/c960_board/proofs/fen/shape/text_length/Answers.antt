use Rattle.std.proofs.Common.{◌∙◌, arith}
use Rattle.c960_board.proofs.Written.RankShape.{lengths_entry}
use Rattle.c960_board.proofs.Written.RankMarks.{marks_short}
use Rattle.c960_board.proofs.fen.shape.text_length.Goals as goal

pub returns-clause-value : goal.returns-clause-value
returns-clause-value c = c.from.ensures ∙ lengths_entry c.args.files c.requires

pub returns-clause-bound : goal.returns-clause-bound
returns-clause-bound c = omega (arith, c.from.ensures ∙ lengths_entry c.args.files c.requires, marks_short c.args.files)
