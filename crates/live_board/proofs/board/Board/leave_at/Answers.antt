use Rattle.std.proofs.Common.{ap, ◌∙◌}
use lib.ListN.{get_elem?}
use Rattle.atomic_table.proofs.Lists.{at_map}
use Rattle.live_board.specs.declared.view.View.{View}
use Rattle.live_board.specs.Views.{sees}
use Rattle.live_board.specs.Seats.{BoardSeat}
use Rattle.live_board.proofs.board.Board.leave_at.Goals as goal

pub closing_at-closing-requires : goal.closing_at-closing-requires
closing_at-closing-requires c = let q = c.requires in (q.0, q.1, ap (λ (h : BoardSeat). get_elem? h.knows.parts q.0) c.self.view_is ∙ q.2, q.3)

pub leave_at-requires : goal.leave_at-requires
leave_at-requires c =
    let q = c.requires in
    let v = c.self.inside.writer.knows in
    let e = ap (λ (h : BoardSeat). get_elem? h.knows.parts q.0) c.self.view_is ∙ q.2 in
    let s = c.look.ensures.knows in
    (q.0, sees s.0 q.1, ap (λ (u : View). get_elem? u.parts q.0) s.1 ∙ at_map (sees s.0) v.parts q.0 q.1 e, q.3)
