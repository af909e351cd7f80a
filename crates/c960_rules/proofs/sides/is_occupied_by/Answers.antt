use Rattle.std.proofs.Common.{arith, ◌∙◌}
use Rattle.c960_board.specs.Pieces.{is_of}
use Rattle.c960_board.specs.Cells.{cell_at}
use Rattle.c960_rules.proofs.WhereFacts.{in_where}
use Rattle.c960_rules.proofs.sides.is_occupied_by.Goals as goal

pub returns : goal.returns
returns c =
    let p = c.args.position.now in
    c.is_in.ensures
    ∙ in_where (λ s. is_of c.args.colour (cell_at p.placement s)) c.squares_of.result c.args.square c.squares_of.ensures (omega arith)
