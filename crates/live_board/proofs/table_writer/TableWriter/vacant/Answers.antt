use Rattle.std.proofs.Common.{arith, sym, ap, ◌∙◌, ◌<◌, ◌≡◌, length, List}
use lib.ListN.{get_elem?}
use mathlib.Core.Option.{some, some-injective}
use mathlib.Core.Logic.{dite}
use native.Mathlib.Decide.{ℕ_discrete}
use Rattle.live_board.specs.declared.note.Note.{Note}
use Rattle.live_board.specs.Seats.{BoardSeat}
use Rattle.live_board.proofs.lemmas.Notes.{at_within}
use Rattle.live_board.proofs.TableWriters.{noted_there}
use Rattle.live_board.proofs.table_writer.TableWriter.vacant.Goals as goal

pub returns-in-Vacant-clause-slot : goal.returns-in-Vacant-clause-slot
returns-in-Vacant-clause-slot c =
    let i = c.self.invariant in
    let b = i.sound.board i.owns in
    let is = c.self.view_is in
    let inside : c.loop-slot.slot < c.args.self.now.knows.setup.limits.followers = omega (arith, c.loop-slot-test.true, c.len-slot-end.ensures, ap length i.notes_are, b.noted, ap (λ (h : BoardSeat). h.knows.setup.limits.followers) is) in
    let there = noted_there i c.loop-slot.slot c.index.result.now c.args.self.now.knows (ap (λ (h : BoardSeat). h.knows) is) inside c.index.ensures in
    (inside, there ∙ ap some c.in-Vacant.is)

pub returns-in-Vacant-clause-first : goal.returns-in-Vacant-clause-first
returns-in-Vacant-clause-first c = c.loop-slot.invariant

pub loop-slot-init : goal.loop-slot-init
loop-slot-init c = λ j less e.
    let i = c.self.invariant in
    i.vacant_is j less (ap (λ (l : List Note). get_elem? l j) i.notes_are ∙ ap (λ (h : BoardSeat). get_elem? h.knows.notes j) c.self.view_is ∙ e)

pub loop-slot-preserved : goal.loop-slot-preserved
loop-slot-preserved c = λ j less e.
    let i = c.self.invariant in
    let b = i.sound.board i.owns in
    let is = c.self.view_is in
    let inside : c.loop-slot.slot < c.args.self.now.knows.setup.limits.followers = omega (arith, c.loop-slot-test.true, c.len-slot-end.ensures, ap length i.notes_are, b.noted, ap (λ (h : BoardSeat). h.knows.setup.limits.followers) is) in
    let there = noted_there i c.loop-slot.slot c.index.result.now c.args.self.now.knows (ap (λ (h : BoardSeat). h.knows) is) inside c.index.ensures in
    dite (ℕ_discrete j c.loop-slot.slot)
    (λ (here : j ≡ c.loop-slot.slot). c.in_default.not-Vacant (some-injective _ _ (sym there ∙ ap (get_elem? c.args.self.now.knows.notes) (sym here) ∙ e)))
    (λ ne. c.loop-slot.invariant j (omega arith) e)

pub returns-clause-slot : goal.returns-clause-slot
returns-clause-slot c = λ k e.
    let i = c.self.invariant in
    let is = c.self.view_is in
    let inside : k < length c.args.self.now.knows.notes = at_within _ _ _ e in
    c.loop-slot.invariant k (omega (arith, inside, c.loop-slot-test.false, c.len-slot-end.ensures, ap length i.notes_are, ap (λ (h : BoardSeat). length h.knows.notes) is)) e
