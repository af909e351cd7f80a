use Rattle.std.proofs.Common.{◌<◌, length, ap, ◌∙◌, arith}
use Rattle.std.proofs.lemmas.List.{length-set}
use Rattle.c960_board.specs.Sets.{cell_in}
use Rattle.c960_board.proofs.lemmas.SetCells.{cells_filled, filled_more}
use Rattle.c960_board.proofs.sets.Sets.placement.Goals as goal

pub loop-number-preserved : goal.loop-number-preserved
loop-number-preserved c =
    let sets = c.args.self.now in
    let cells = c.loop-number.placement in
    let full = c.loop-number.invariant.0 in
    let more = c.loop-number-test.true in
    let inside : c.loop-number.number < length cells = omega arith in
    let is = c.cell.ensures ∙ ap (cell_in sets) c.known.ensures in (
      length-set cells c.loop-number.number c.cell.result ∙ full,
      filled_more (cell_in sets) cells c.loop-number.number c.cell.result inside is c.loop-number.invariant.1,
    )

pub returns : goal.returns
returns c = cells_filled c.args.self.now c.loop-number.placement c.loop-number.invariant.0 (λ u l. c.loop-number.invariant.1 u (omega arith))
