use Rattle.std.proofs.Common.{rules, arith, ap, refl, sym, subst, set, ◌≡◌, ◌∙◌, ◌+◌, ◌-◌, ◌<◌, ℕ, length, Some}
use lib.ListN.{get_elem?}
use Rattle.live_board.specs.declared.setup.BoardSetup.{BoardSetup}
use Rattle.live_board.specs.declared.note.Note.TheVariants.{Closed}
use Rattle.live_board.specs.Sound.{Follows}
use Rattle.live_board.specs.Views.{noted}
use Rattle.live_board.specs.Words.{cursor_of, note_after}
use Rattle.live_board.proofs.lemmas.Notes.{note_read, closed_open}
use Rattle.live_board.specs.Seats.{BoardSeat, NoneBefore}
use Rattle.live_board.proofs.TableWriters.{none_before_loaded, none_before_set, noted_is, noted_there, set_at, writer_of}
use Rattle.live_board.proofs.Steps.{closing}
use Rattle.live_board.proofs.table_writer.TableWriter.exchange.Goals.{then-word-open, else-word-open}
use Rattle.live_board.proofs.table_writer.TableWriter.exchange.Goals as goal

pub open_cursor-open-requires : goal.open_cursor-open-requires
open_cursor-open-requires c =
    let i = c.self.invariant in
    let b = i.sound.board i.owns in
    let room = b.room in
    let plies = b.limits.most_plies in
    omega (arith, c.requires.full.2, ap (λ (h : BoardSeat). length h.knows.log) c.self.view_is, room, plies)

pub compare_exchange-word-requires : goal.compare_exchange-word-requires
compare_exchange-word-requires c =
    let i = c.self.invariant in
    let is = c.self.view_is in
    let same = c.deref.ensures in
    let full = c.requires.full in
    let inside : c.args.slot < c.self.inside.setup.limits.followers = omega (arith, c.requires.inside, ap (λ (h : BoardSeat). h.knows.setup.limits.followers) is, ap (λ (z : BoardSetup). z.limits.followers) i.setup_is) in (
      search rules,
      omega (arith, c.cursor_at.ensures, inside, i.words, ap (λ t. t.shared.table_id.words) same),
      closing _ _ _ _ c.args.slot full.0 c.args.next _ _ _ c.cursor_at.ensures c.open_cursor-open.ensures (c.closed_cursor-closed.ensures ∙ ap (λ (x : _). cursor_of c.args.next (Some x)) i.len_is)
          (omega (arith, inside, ap (λ (z : BoardSetup). z.limits.followers) i.key_is, ap (λ t. t.shared.key.limits.followers) same)) i.owns
          (ap (λ (h : BoardSeat). get_elem? h.knows.notes c.args.slot) is ∙ full.1)
          (omega (arith, full.2, ap (λ (h : BoardSeat). h.knows.setup.limits.capacity) is, ap (λ (h : BoardSeat). length h.knows.log) is, ap (λ (z : BoardSetup). z.limits.capacity) i.setup_is, ap (λ (z : BoardSetup). z.limits.capacity) i.key_is, ap (λ t. t.shared.key.limits.capacity) same)),
    )

pub invariant_of-self : goal.invariant_of-self
invariant_of-self c =
    let i = c.self.invariant in
    let v = c.self.inside.seat.me.0 in
    let slot = c.args.slot in
    let f = c.compare_exchange-word.ensures in
    let n = c.compare_exchange-word.result in
    let at-slot : slot + 2 - 2 ≡ slot = omega arith in
    let e = c.set_note.ensures in
    elim c.if-word-open.branch [
      | then-word-open w ↦
          writer_of _ (f.2.1 w.if-word-open.true) (f.0 ∙ i.table) i.words i.key_is i.owns i.setup_is i.len_is
          (e.items ∙ (λ k. set (i.notes_are k) slot (w.note-is k)) ∙ set_at v.notes slot (Closed c.self.inside.len) (Closed (length v.log)) (ap Closed i.len_is) ∙ ap (λ (y : ℕ). set v.notes (y - 2) (Closed (length v.log))) (sym c.cursor_at.ensures))
          (subst (NoneBefore c.self.inside.least_noted) (sym e.items) (none_before_set _ slot _ _ i.least_is (λ j b o. absurd (closed_open _ j b (sym w.note-is ∙ o))))) i.least_low
          (e.vacant i.vacant_is) (e.room ∙ i.room_is) (f.2.0.0 ∙ i.none_held) f.2.0.1
      | else-word-open w ↦
          let x = w.index.result.now in
          let miss = f.2.2 w.if-word-open.false in
          let there = noted_there i slot x v refl (omega (arith, c.requires.inside, ap (λ (h : BoardSeat). h.knows.setup.limits.followers) c.self.view_is)) w.index.ensures in
          let new = w.note-is ∙ w.note_after-note.ensures.note in
          let follows : Follows x (note_after x n) = (miss.1 i.owns x (ap (λ (y : ℕ). get_elem? v.notes (y - 2)) c.cursor_at.ensures ∙ ap (get_elem? v.notes) at-slot ∙ there)).0 in
          writer_of _ miss.0 (f.0 ∙ i.table) i.words i.key_is i.owns i.setup_is i.len_is
          (e.items ∙ (λ k. set (i.notes_are k) slot (new k)) ∙ noted_is v.notes slot n x (note_read v.notes slot x there) ∙ ap (λ (y : ℕ). (noted y n v).notes) (sym c.cursor_at.ensures))
          (subst (NoneBefore c.self.inside.least_noted) (sym (e.items ∙ ap (set c.self.inside.notes.items slot) new)) (none_before_loaded i slot x (note_after x n) there follows)) i.least_low
          (e.vacant i.vacant_is) (e.room ∙ i.room_is)
          (f.2.0.0 ∙ i.none_held) f.2.0.1
    ]
