use Rattle.std.proofs.Common.{take, sym}
use Rattle.std.proofs.lemmas.List.{take_more}
use Rattle.relay_pushing.proofs.Abandons.{ends_more}
use Rattle.relay_pushing.proofs.conn.Conn.finish.Goals as goal

pub loop-board-preserved : goal.loop-board-preserved
loop-board-preserved g c =
    let makes = g.K.Keeper.makes in
    let items = c.deref-board-items.result.now in
    let i = c.loop-board.board-index in
    let board = c.board-item.result in
    let more = take_more items i board c.loop-board-test.true in
    let same = sym c.board-item.is in
    rw (more, same) (ends_more makes c.args.keeper.now c.loop-board.keeper c.step.new.self (take i items) board c.step.result c.loop-board.invariant c.step.ensures)
