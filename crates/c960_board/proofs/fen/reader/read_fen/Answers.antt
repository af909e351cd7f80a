use Rattle.std.proofs.Common.{rules}
use Rattle.c960_board.proofs.Reading.OneReading.{answer_of, only_position, only_fault}
use Rattle.c960_board.proofs.fen.reader.read_fen.Goals as goal

pub returns-clause-only : goal.returns-clause-only
returns-clause-only c =
    only_position c.args.text.now c.read_fields.result
    (answer_of c.args.text.now _ c.read_fields.result (search rules) c.read_fields.ensures)

pub returns-clause-first : goal.returns-clause-first
returns-clause-first c =
    only_fault c.args.text.now c.read_fields.result
    (answer_of c.args.text.now _ c.read_fields.result (search rules) c.read_fields.ensures)
