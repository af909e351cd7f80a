use Rattle.std.proofs.Common.{ap, sym, ◌∙◌}
use Rattle.c960_board.specs.declared.parts.Parts.{Parts}
use Rattle.c960_board.specs.Cells.{cell_at}
use Rattle.c960_board.proofs.lemmas.SetCells.{cell_there}
use Rattle.c960_board.proofs.position.Position.piece_at.Goals as goal

pub returns : goal.returns
returns c =
    let same = c.number-bound.ensures.value in
    let bound = rw same at c.number-bound.ensures.bound in
    c.cell.ensures ∙ sym (cell_there c.self.inside.sets c.args.square bound)
    ∙ ap (λ (p : Parts). cell_at p.placement c.args.square) c.self.view_is
