use Rattle.std.proofs.Common.{rules, arith, ap, refl, sym, subst, set, ◌∙◌, ◌≡◌, ◌+◌, ◌-◌, ◌<◌, length, List, ℕ}
use mathlib.Core.Option.{some}
use lib.ListN.{get_elem?}
use Rattle.atomic_table.proofs.Lists.{set_here}
use Rattle.live_board.specs.declared.note.Note.{Note}
use Rattle.live_board.specs.declared.view.View.{View}
use Rattle.live_board.proofs.TableWriters.{none_before_loaded, noted_is, noted_there, writer_of}
use Rattle.live_board.specs.Sound.{Follows}
use Rattle.live_board.specs.Words.{note_after}
use Rattle.live_board.specs.Views.{noted}
use Rattle.live_board.proofs.lemmas.Notes.{note_read}
use Rattle.live_board.specs.declared.setup.BoardSetup.{BoardSetup}
use Rattle.live_board.specs.Seats.{BoardSeat, NoneBefore}
use Rattle.live_board.proofs.Steps.{checking}
use Rattle.live_board.proofs.table_writer.TableWriter.check.Goals.{After-index}
use Rattle.live_board.proofs.table_writer.TableWriter.check.Goals as goal

pub load-word-requires : goal.load-word-requires
load-word-requires c =
    let i = c.self.invariant in
    let same = c.deref.ensures in
    let inside : c.args.slot < c.self.inside.setup.limits.followers = omega (arith, c.requires, ap (λ (h : BoardSeat). h.knows.setup.limits.followers) c.self.view_is, ap (λ (z : BoardSetup). z.limits.followers) i.setup_is) in (
      search rules,
      omega (arith, c.cursor_at.ensures, inside, i.words, ap (λ t. t.shared.table_id.words) same),
      checking _ _ _ _ c.args.slot _ c.cursor_at.ensures (omega (arith, inside, ap (λ (z : BoardSetup). z.limits.followers) i.key_is, ap (λ t. t.shared.key.limits.followers) same)),
    )

-- the note that was read
read : (c : After-index) → get_elem? c.self.inside.seat.me.0.notes c.args.slot ≡ some c.index.result.now
read c =
    let i = c.self.invariant in
    noted_there i c.args.slot c.index.result.now c.self.inside.seat.me.0 refl (omega (arith, c.requires, ap (λ (h : BoardSeat). h.knows.setup.limits.followers) c.self.view_is)) c.index.ensures

pub invariant_of-self : goal.invariant_of-self
invariant_of-self c =
    let i = c.self.invariant in
    let v = c.self.inside.seat.me.0 in
    let slot = c.args.slot in
    let x = c.index.result.now in
    let n = c.load-word.result in
    let f = c.load-word.ensures in
    let there = read (goal.at.invariant_of-self c).After-index in
    let at-slot : slot + 2 - 2 ≡ slot = omega arith in
    let follows : Follows x (note_after x n) = (f.2.2 i.owns x (ap (λ (y : ℕ). get_elem? v.notes (y - 2)) c.cursor_at.ensures ∙ ap (get_elem? v.notes) at-slot ∙ there)).0 in
    let set_to : c.set_note.new.notes.items ≡ set c.self.inside.notes.items slot (note_after x n) =
    c.set_note.ensures.items ∙ ap (set c.self.inside.notes.items slot) c.note_after-note.ensures.note in
    writer_of _ f.2.1 (f.0 ∙ i.table) i.words i.key_is i.owns i.setup_is i.len_is
    (set_to ∙ (λ k. set (i.notes_are k) slot (note_after x n)) ∙ noted_is v.notes slot n x (note_read v.notes slot x there) ∙ ap (λ (y : ℕ). (noted y n v).notes) (sym c.cursor_at.ensures))
    (subst (NoneBefore c.self.inside.least_noted) (sym set_to) (none_before_loaded i slot x (note_after x n) there follows)) i.least_low
    (c.set_note.ensures.vacant i.vacant_is) (c.set_note.ensures.room ∙ i.room_is)
    (f.2.0.0 ∙ i.none_held) f.2.0.1

-- the note that was made is in its slot
pub returns-clause-note : goal.returns-clause-note
returns-clause-note c =
    let i = c.self.invariant in
    let v = c.self.inside.seat.me.0 in
    let inside : c.args.slot < c.self.inside.setup.limits.followers = omega (arith, c.requires, ap (λ (h : BoardSeat). h.knows.setup.limits.followers) c.self.view_is, ap (λ (z : BoardSetup). z.limits.followers) i.setup_is) in
    let b = i.sound.board i.owns in
    let low : c.args.slot < length v.notes = omega (arith, inside, b.noted, ap (λ (z : BoardSetup). z.limits.followers) i.setup_is) in
    let x = c.index.result.now in
    let there = noted_there i c.args.slot x v refl (omega (arith, inside, ap (λ (z : BoardSetup). z.limits.followers) i.setup_is)) c.index.ensures in
    ap (λ (u : View). get_elem? u.notes c.args.slot) (c.load-word.ensures.2.1 ∙ ap (λ (y : ℕ). noted y c.load-word.result v) c.cursor_at.ensures)
    ∙ ap (λ (l : List Note). get_elem? l c.args.slot) (sym (noted_is v.notes c.args.slot c.load-word.result x (note_read v.notes c.args.slot x there)))
    ∙ set_here v.notes c.args.slot (note_after x c.load-word.result) low
    ∙ ap some (sym c.note_after-note.ensures.note)
