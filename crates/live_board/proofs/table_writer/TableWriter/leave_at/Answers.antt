use Rattle.std.proofs.Common.{rules, arith, ap, refl, set, subst, ◌∙◌, sym, ◌+◌, ◌-◌, ℕ}
use lib.ListN.{get_elem?}
use Rattle.live_board.specs.declared.setup.BoardSetup.{BoardSetup}
use Rattle.live_board.specs.Seats.{BoardSeat, NoneBefore}
use Rattle.live_board.specs.declared.note.Note.TheVariants.{Vacant}
use Rattle.live_board.proofs.TableWriters.{none_before_set, set_at, writer_of}
use Rattle.live_board.proofs.lemmas.Notes.{vacant_open}
use Rattle.live_board.proofs.Steps.{leaving}
use Rattle.live_board.proofs.table_writer.TableWriter.leave_at.Goals as goal

pub swap-cursor-requires : goal.swap-cursor-requires
swap-cursor-requires c =
    let i = c.self.invariant in
    let q = c.requires in
    let e = ap (λ (h : BoardSeat). get_elem? h.knows.parts q.0) c.self.view_is ∙ q.2 in
    let b = i.sound.board i.owns in
    let inside = (b.inside q.0 q.1 e).0 in (
      search rules,
      omega (arith, c.cursor_at.ensures, inside, q.3, ap (λ (z : BoardSetup). z.limits.followers) i.setup_is, i.words, ap (λ t. t.shared.table_id.words) c.deref.ensures),
      leaving _ _ _ _ q.0 q.1 _ (c.cursor_at.ensures ∙ ap (λ (y : ℕ). y + 2) (sym q.3)) e,
    )

pub invariant_of-self : goal.invariant_of-self
invariant_of-self c =
    let i = c.self.invariant in
    let v = c.self.inside.seat.me.0 in
    let f = c.swap-cursor.ensures in
    let e = c.set_note.ensures in
    writer_of _ f.2.1 (f.0 ∙ i.table) i.words i.key_is i.owns i.setup_is i.len_is
    (e.items ∙ ap (λ l. set l c.args.slot Vacant) i.notes_are ∙ set_at v.notes c.args.slot Vacant Vacant refl ∙ ap (λ (y : ℕ). set v.notes (y - 2) Vacant) (sym c.cursor_at.ensures))
    (subst (NoneBefore c.self.inside.least_noted) (sym e.items) (none_before_set _ c.args.slot _ Vacant i.least_is (λ j b o. absurd (vacant_open j b o)))) i.least_low
    (e.vacant i.vacant_is) (e.room ∙ i.room_is) (f.2.0.0 ∙ i.none_held) f.2.0.1
