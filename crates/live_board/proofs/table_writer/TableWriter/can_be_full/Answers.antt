use Rattle.std.proofs.Common.{ap, sym, ◌∙◌, length, arith, leb-false}
use lib.ListN.{get_elem?}
use Rattle.live_board.specs.declared.setup.BoardSetup.{BoardSetup}
use Rattle.live_board.specs.Seats.{BoardSeat}
use Rattle.live_board.proofs.table_writer.TableWriter.can_be_full.Goals as goal

pub returns-clause-free : goal.returns-clause-free
returns-clause-free c = λ off k j b less e.
    let i = c.self.invariant in
    let len = i.len_is ∙ ap (λ (h : BoardSeat). length h.knows.log) c.self.view_is in
    let cap = ap (λ (z : BoardSetup). z.limits.capacity) (sym i.setup_is) ∙ ap (λ (h : BoardSeat). h.knows.setup.limits.capacity) c.self.view_is in
    let low = i.least_is k j b (ap (λ l. get_elem? l k) i.notes_are ∙ ap (λ (h : BoardSeat). get_elem? h.knows.notes k) c.self.view_is ∙ e) in
    omega (arith, leb-false _ _ off, len, cap, low)
