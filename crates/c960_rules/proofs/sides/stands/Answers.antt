use Rattle.std.proofs.Common.{arith, ◌∙◌}
use Rattle.c960_board.specs.Pieces.{holds}
use Rattle.c960_board.specs.Cells.{cell_at}
use Rattle.c960_rules.proofs.WhereFacts.{in_where, set_where}
use Rattle.c960_rules.proofs.sides.stands.Goals as goal

pub returns : goal.returns
returns c =
    let p = c.args.position.now in
    let test = holds c.args.colour c.args.kind in
    c.is_in.ensures
    ∙ in_where (λ s. test (cell_at p.placement s)) c.pieces.result c.args.square
    (c.pieces.ensures.set ∙ set_where test p.placement c.sets-sets.ensures.valid.placement.full) (omega arith)
