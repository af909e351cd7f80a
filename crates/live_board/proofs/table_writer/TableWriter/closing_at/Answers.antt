use Rattle.std.proofs.Common.{sym, ap, ◌∙◌, ◌≡◌, length, arith, refl, None}
use mathlib.Core.Option.{some}
use Rattle.live_board.specs.declared.note.Note.{Note}
use Rattle.live_board.specs.declared.note.Note.TheVariants.{Vacant, Open, Closed}
use Rattle.live_board.specs.Carried.{closing_found}
use Rattle.live_board.specs.Meeting.{closing_noted}
use Rattle.live_board.specs.Seats.{BoardSeat}
use Rattle.live_board.proofs.TableWriters.{carried_inside, noted_there}
use Rattle.live_board.proofs.table_writer.TableWriter.closing_at.Goals as goal

pub index-requires : goal.index-requires
index-requires c =
    let i = c.self.invariant in
    let b = i.sound.board i.owns in
    let inside = carried_inside i c.args.self.now.knows c.args.slot (ap (λ (h : BoardSeat). h.knows) c.self.view_is) c.requires in
    omega (arith, inside, b.noted, ap length i.notes_are, ap (λ (h : BoardSeat). h.knows.setup.limits.followers) c.self.view_is)

pub returns-in-Closed-clause-closing : goal.returns-in-Closed-clause-closing
returns-in-Closed-clause-closing c =
    let there = noted_there c.self.invariant c.args.slot c.index.result.now c.args.self.now.knows (ap (λ (h : BoardSeat). h.knows) c.self.view_is) (carried_inside c.self.invariant c.args.self.now.knows c.args.slot (ap (λ (h : BoardSeat). h.knows) c.self.view_is) c.requires) c.index.ensures in
    sym (ap closing_found (there ∙ ap some c.in-Closed.is))

other : (n : Note) → ((x : _) → n ≡ Closed x → ⊥) → None ≡ closing_noted n
other Vacant ne = refl
other (Open joined least) ne = refl
other (Closed c) ne = absurd (ne c refl)

pub returns-in_default-clause-closing : goal.returns-in_default-clause-closing
returns-in_default-clause-closing c =
    let there = noted_there c.self.invariant c.args.slot c.index.result.now c.args.self.now.knows (ap (λ (h : BoardSeat). h.knows) c.self.view_is) (carried_inside c.self.invariant c.args.self.now.knows c.args.slot (ap (λ (h : BoardSeat). h.knows) c.self.view_is) c.requires) c.index.ensures in
    other c.index.result.now c.in_default.not-Closed ∙ sym (ap closing_found there)
