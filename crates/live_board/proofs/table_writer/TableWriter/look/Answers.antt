use Rattle.std.proofs.Common.{rules, length, ap, ◌∙◌}
use Rattle.live_board.specs.declared.view.View.{View}
use Rattle.live_board.specs.Views.{each_part, sees}
use Rattle.live_board.proofs.Allowed.{allows_looking}
use Rattle.live_board.specs.Seats.{BoardSeat}
use Rattle.live_board.proofs.table_writer.TableWriter.look.Goals as goal

pub load-status-requires : goal.load-status-requires
load-status-requires c = (search rules, search rules, allows_looking _ _ _ _)

pub returns-clause-knows : goal.returns-clause-knows
returns-clause-knows c =
    let f = c.load-status.ensures in
    let x = ap (λ (h : BoardSeat). h.knows) c.self.view_is in
    let own = f.2.3 c.self.invariant.owns in
    (c.load-status.result, f.2.1 ∙ ap (each_part (sees c.load-status.result)) x, own.0 ∙ ap (λ (u : View). length u.log) x, own.1 ∙ ap (λ (u : View). u.outcome) x)
