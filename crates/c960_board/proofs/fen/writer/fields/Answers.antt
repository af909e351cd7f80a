use Rattle.c960_board.specs.Sets.{parts_of}
use Rattle.c960_board.proofs.Written.Steps.{canonical_written}
use Rattle.c960_board.proofs.fen.writer.fields.Goals as goal

pub returns : goal.returns
returns c =
    let whole = canonical_written (parts_of c.args.sets.now c.args.turn c.args.rights.now c.args.target c.args.half_moves c.args.number) in
    cc
