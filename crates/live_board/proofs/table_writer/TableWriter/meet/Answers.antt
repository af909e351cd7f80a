use Rattle.std.proofs.Common.{rules, arith, refl, sym, ap, ◌∙◌, ◌≡◌, ◌+◌, ◌-◌, ◌<◌, ◌∷◌, [], ℕ, length, set, subst}
use Rattle.live_board.specs.declared.setup.BoardSetup.{BoardSetup}
use Rattle.live_board.specs.declared.view.Part.{Part}
use Rattle.live_board.specs.declared.view.View.{View}
use lib.ListN.{get_elem?}
use Rattle.live_board.specs.Sound.{IsSound, Follows}
use Rattle.live_board.specs.Words.{note_after}
use Rattle.live_board.specs.Views.{carrying, taking_in, each_part, sees, learns, noted, kept_part, given_part}
use Rattle.live_board.proofs.Allowed.{allows_sparing, allows_splitting, allows_joining, allows_looking}
use Rattle.live_board.proofs.lemmas.Notes.{note_read}
use Rattle.live_board.proofs.EachStep.{off}
use Rattle.live_board.specs.Meeting.{Met}
use Rattle.live_board.specs.Takes.{HasSeenNoLess}
use Rattle.live_board.specs.Seats.{BoardSeat, FollowerSeat, NoneBefore, part_of}
use Rattle.live_board.proofs.TableWriters.{none_before_loaded, noted_is, noted_there, writer_of}
use Rattle.live_board.proofs.Followers.{follower_of, only_is, part_sound}
use Rattle.live_board.proofs.Hands.{kept_sound, given_sound}
use Rattle.live_board.proofs.Steps.{checking}
use Rattle.live_board.proofs.Meetings.{checked_in, joined_in, looked_in, looked_inside, meets}
use Rattle.live_board.proofs.table_writer.TableWriter.meet.Goals.{After-load-status, After-split_seat-out}
use Rattle.live_board.proofs.table_writer.TableWriter.meet.Goals as goal

-- the board's view after the status was loaded, and the slot of the part that it took in
module _ (c : After-load-status) where
  joined : c.join_seat.new.seat.me.0 ≡ joined_in c.self.inside.seat.me.0 c.follower.inside.setup (part_of c.follower.inside.seat.me.0)
  joined = ap (λ m. m.0) c.join_seat.ensures.2 ∙ (λ k. taking_in (ap (λ m. m.0) c.split_seat-seat.ensures.2 k) ((ap (λ s. s.me.0) c.swap.ensures.x_after ∙ c.follower.invariant.one) k))

  looked : c.load-status.new.seat.me.0 ≡ looked_in c.self.inside.seat.me.0 c.follower.inside.setup (part_of c.follower.inside.seat.me.0) c.load-status.result
  looked = c.load-status.ensures.2.1 ∙ ap (each_part (sees c.load-status.result)) joined

  inside : ((part_of c.follower.inside.seat.me.0).slot < c.self.inside.seat.me.0.setup.limits.followers) × ((part_of c.follower.inside.seat.me.0).setup ≡ c.self.inside.seat.me.0.setup)
  inside = looked_inside c.load-status.new.seat.me.0 c.self.inside.seat.me.0 c.follower.inside.setup (part_of c.follower.inside.seat.me.0) c.load-status.result looked c.self.invariant.owns c.load-status.ensures.2.0.1

  low : c.follower.inside.slot < c.self.inside.setup.limits.followers
  low = omega (arith, inside.0, c.follower.invariant.slot_is, ap (λ (z : BoardSetup). z.limits.followers) c.self.invariant.setup_is)

  noted_low : c.follower.inside.slot < length c.self.inside.notes.items
  noted_low =
      let i = c.self.invariant in
      let b = i.sound.board i.owns in
      omega (arith, low, b.noted, ap length i.notes_are, ap (λ (z : BoardSetup). z.limits.followers) i.setup_is)

-- the views of both seats after the part was handed out
module _ (c : After-split_seat-out) where
  abbrev early : After-load-status
  early = c.before.before.before.before

  whole : c.load-cursor.new.seat.me.0 ≡ checked_in c.self.inside.seat.me.0 c.follower.inside.setup (part_of c.follower.inside.seat.me.0) c.load-status.result c.follower.inside.slot c.load-cursor.result
  whole = c.load-cursor.ensures.2.1 ∙ (λ k. noted (c.cursor_at-word.ensures k) c.load-cursor.result (looked early k))

  handed : c.split_seat-out.result.me.0 ≡ carrying c.follower.inside.setup (learns c.load-cursor.result (sees c.load-status.result (part_of c.follower.inside.seat.me.0)) ∷ [])
  handed =
      let j = c.follower.invariant in
      ap (λ m. m.0) c.split_seat-out.ensures.4 ∙ ap given_part whole
      ∙ (λ k. carrying ((sym (inside early).1 ∙ j.setup_is) k) (only_is (c.follower.inside.slot + 2) (learns c.load-cursor.result) (sees c.load-status.result (part_of c.follower.inside.seat.me.0)) (ap (λ (y : ℕ). y + 2) (sym j.slot_is)) k ∷ []))

  handed_sound : IsSound c.split_seat-out.result.me.0
  handed_sound = subst IsSound (sym (ap (λ m. m.0) c.split_seat-out.ensures.4)) (given_sound c.load-cursor.new.seat.me.0 c.load-cursor.ensures.2.0.1)

  -- the part has seen no less than before
  no_less : HasSeenNoLess (part_of c.follower.inside.seat.me.0) (learns c.load-cursor.result (sees c.load-status.result (part_of c.follower.inside.seat.me.0)))
  no_less =
      let p = part_of c.follower.inside.seat.me.0 in
      let r = c.load-status.result in
      let seen = c.load-status.ensures.2.2 0 p (ap (λ (u : View). get_elem? u.parts 0) (joined early)) in
      let at-word : (sees r p).slot + 2 ≡ c.cursor_at-word.result = ap (λ (y : ℕ). y + 2) (sym c.follower.invariant.slot_is) ∙ sym c.cursor_at-word.ensures in
      (seen.0, seen.2, c.load-cursor.ensures.2.3 0 (sees r p) (ap (λ (u : View). get_elem? u.parts 0) (looked early)) at-word)

pub split_seat-seat-requires : goal.split_seat-seat-requires
split_seat-seat-requires c = (search rules, search rules, allows_sparing _ _ _)

pub join_seat-requires : goal.join_seat-requires
join_seat-requires c =
    let i = c.self.invariant in
    let j = c.follower.invariant in
    let here = ap (λ t. t.shared.table_id) (sym c.deref.ensures) in (
      c.split_seat-seat.ensures.0 ∙ i.table ∙ here,
      ap (λ s. s.table_id) c.swap.ensures.x_after ∙ ap (λ (h : FollowerSeat). h.table) c.follower.view_is ∙ c.requires ∙ ap (λ (h : BoardSeat). h.table) (sym c.self.view_is) ∙ i.table ∙ here,
      ap (λ s. s.me.1) c.swap.ensures.x_after ∙ j.none_held,
      omega (arith, i.words, ap (λ t. t.shared.table_id.words) c.deref.ensures),
      allows_joining _ _ _ _ _ (λ o. off (sym (ap (λ (v : View). v.owns) (ap (λ s. s.me.0) c.swap.ensures.x_after ∙ j.one)) ∙ o)),
    )

pub load-status-requires : goal.load-status-requires
load-status-requires c = (search rules, search rules, allows_looking _ _ _ _)

pub load-cursor-requires : goal.load-cursor-requires
load-cursor-requires c =
    let i = c.self.invariant in
    let low = low (goal.at.load-cursor-requires c).After-load-status in (
      search rules,
      omega (arith, c.cursor_at-word.ensures, low, i.words, ap (λ t. t.shared.table_id.words) c.deref.ensures),
      checking _ _ _ _ c.follower.inside.slot _ c.cursor_at-word.ensures (omega (arith, low, ap (λ (z : BoardSetup). z.limits.followers) i.key_is, ap (λ t. t.shared.key.limits.followers) c.deref.ensures)),
    )

pub split_seat-out-requires : goal.split_seat-out-requires
split_seat-out-requires c = (search rules, search rules, allows_splitting _ _ _)

pub index-requires : goal.index-requires
index-requires c = omega (arith, noted_low (goal.at.index-requires c).After-load-status)

pub set_note-requires-clause-inside : goal.set_note-requires-clause-inside
set_note-requires-clause-inside c = omega (arith, noted_low (goal.at.set_note-requires-clause-inside c).After-load-status)

pub invariant_of-self : goal.invariant_of-self
invariant_of-self c =
    let i = c.self.invariant in
    let v = c.self.inside.seat.me.0 in
    let slot = c.follower.inside.slot in
    let late = (goal.at.invariant_of-self c).After-split_seat-out in
    let n = c.load-cursor.result in
    let f = c.load-cursor.ensures in
    let out = c.split_seat-out.ensures in
    let kept = ap (λ m. m.0) out.2 in
    let there = noted_there i slot c.index.result.now v refl (omega (arith, low (early late), ap (λ (z : BoardSetup). z.limits.followers) i.setup_is)) c.index.ensures in
    let at-slot : slot + 2 - 2 ≡ slot = omega arith in
    let follows : Follows c.index.result.now (note_after c.index.result.now n) =
    (f.2.2 (ap (λ (u : View). u.owns) (looked (early late)) ∙ i.owns) c.index.result.now (ap (λ (u : View). get_elem? u.notes (c.cursor_at-word.result - 2)) (looked (early late)) ∙ ap (λ (y : ℕ). get_elem? v.notes (y - 2)) c.cursor_at-word.ensures ∙ ap (get_elem? v.notes) at-slot ∙ there)).0 in
    let set_to : c.set_note.new.notes.items ≡ set c.self.inside.notes.items slot (note_after c.index.result.now n) =
    c.set_note.ensures.items ∙ ap (set c.self.inside.notes.items slot) c.note_after-note.ensures.note in
    writer_of _ (kept ∙ ap kept_part (whole late)) (out.0 ∙ f.0 ∙ c.load-status.ensures.0 ∙ c.join_seat.ensures.0 ∙ c.split_seat-seat.ensures.0 ∙ i.table) i.words i.key_is i.owns i.setup_is i.len_is
    (set_to ∙ ap (λ l. set l slot (note_after c.index.result.now n)) i.notes_are ∙ noted_is v.notes slot n c.index.result.now (note_read v.notes slot c.index.result.now there))
    (subst (NoneBefore c.self.inside.least_noted) (sym set_to) (none_before_loaded i slot c.index.result.now (note_after c.index.result.now n) there follows)) i.least_low
    (c.set_note.ensures.vacant i.vacant_is) (c.set_note.ensures.room ∙ i.room_is)
    (ap (λ m. m.1) out.2 ∙ f.2.0.0 ∙ c.load-status.ensures.2.0.0 ∙ ap (λ m. m.1) c.join_seat.ensures.2 ∙ ap (λ m. m.1) c.split_seat-seat.ensures.2 ∙ i.none_held) (subst IsSound (sym kept) (kept_sound c.load-cursor.new.seat.me.0 f.2.0.1))

pub invariant_of-follower : goal.invariant_of-follower
invariant_of-follower c =
    let j = c.follower.invariant in
    let late = (goal.at.invariant_of-follower c).After-split_seat-out in
    let out = c.split_seat-out.ensures in
    let table = out.3 ∙ c.load-cursor.ensures.0 ∙ c.load-status.ensures.0 ∙ c.join_seat.ensures.0 ∙ c.split_seat-seat.ensures.0 ∙ ap (λ (h : BoardSeat). h.table) c.self.view_is ∙ sym c.requires ∙ ap (λ (h : FollowerSeat). h.table) (sym c.follower.view_is) ∙ j.table in
    follower_of _ (handed late) (handed_sound late) (ap (λ m. m.1) out.4) table j.words j.key_is j.setup_is j.slot_is j.joined_is j.taken_is c.length_in-follower-inside.ensures c.outcome_in-follower-inside.ensures c.closing_in-follower-inside.ensures

pub returns-clause-met : goal.returns-clause-met
returns-clause-met c =
    let late = (goal.at.returns-clause-met c).After-split_seat-out in
    let owns = c.self.invariant.owns in
    let view = ap (λ m. m.0) c.split_seat-out.ensures.2 ∙ ap kept_part (whole late) in
    let own = c.load-status.ensures.2.3 (ap (λ (u : View). u.owns) (joined (early late)) ∙ owns) in
    let met = meets c.self.inside.seat.me.0 c.follower.inside.setup (part_of c.follower.inside.seat.me.0) c.follower.inside.slot c.load-status.result c.load-cursor.result (sym c.follower.invariant.slot_is) owns (subst IsSound (whole late) c.load-cursor.ensures.2.0.1)
    (own.0 ∙ ap (λ (u : View). length u.log) (joined (early late))) (own.1 ∙ ap (λ (u : View). u.outcome) (joined (early late))) (no_less late) in
    subst (λ (x : View × Part × View × Part). Met x.0 x.1 x.2 x.3) (λ k. (ap (λ (h : BoardSeat). h.knows) c.self.view_is k, ap (λ (h : FollowerSeat). h.part) c.follower.view_is k, sym view k, sym (ap part_of (handed late)) k)) met

pub returns-clause-sound : goal.returns-clause-sound
returns-clause-sound c =
    subst IsSound (sym (ap (λ m. m.0) c.split_seat-out.ensures.2)) (kept_sound c.load-cursor.new.seat.me.0 c.load-cursor.ensures.2.0.1)

pub returns-clause-sound_part : goal.returns-clause-sound_part
returns-clause-sound_part c =
    let late = (goal.at.returns-clause-sound_part c).After-split_seat-out in
    part_sound c.split_seat-out.result.me.0 c.follower.inside.setup _ (handed late) (handed_sound late)
