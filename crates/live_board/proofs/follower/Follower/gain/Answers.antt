use Rattle.std.proofs.Common.{rules, arith, ◌≡◌, ℕ, ◌+◌, ◌<◌, ◌∷◌, [], ◌++◌, length, length-append, Some, refl, subst, sym, ap, ◌∙◌}
use Rattle.std.proofs.lemmas.Option.{same_Some}
use lib.ListN.{get_elem?}
use Rattle.c960_board.specs.Moves.{Triple, IsMove}
use Rattle.c960_board.specs.MoveTexts.{move_code}
use Rattle.live_board.specs.declared.setup.BoardSetup.{BoardSetup}
use Rattle.live_board.specs.declared.view.Part.{Part}
use Rattle.live_board.specs.declared.view.View.{View}
use Rattle.live_board.specs.Views.{next_of, carrying, gains, holding}
use Rattle.live_board.specs.Seats.{FollowerSeat, part_of}
use Rattle.live_board.proofs.Steps.{reading, taking}
use Rattle.live_board.proofs.Followers.{follower_of, part_sound, read_part, taken_part}
use Rattle.live_board.proofs.follower.Follower.gain.Goals.{After-deref, After-load-code, After-fetch_add-cursor}
use Rattle.live_board.proofs.follower.Follower.gain.Goals as goal

-- the next place lies below the length seen
near : (c : After-deref) → next_of (part_of c.self.inside.seat.me.0) < (part_of c.self.inside.seat.me.0).seen
near c = subst (λ (q : Part). next_of q < q.seen) (sym (ap (λ (h : FollowerSeat). h.part) c.self.view_is)) c.requires.near

-- the move that was loaded
found : (c : After-load-code) → (x : Triple) × IsMove x × (c.load-code.result ≡ move_code x) × (c.load-code.new.seat.me.0 ≡ carrying c.self.inside.setup (holding (Some x) (part_of c.self.inside.seat.me.0) ∷ []))
found c = read_part c.self.invariant c.deref.result.now.shared.table_id.slots c.move_word_at-word.result c.load-code.result c.load-code.new.seat.me c.load-code.ensures.2 c.move_word_at-word.ensures (near c.before.before)

-- the view that has taken it
gained : (c : After-fetch_add-cursor) → c.fetch_add-cursor.new.seat.me.0 ≡ carrying c.self.inside.setup (gains c.fetch_add-cursor.result (holding (Some c.in-Some.m) (part_of c.self.inside.seat.me.0)) ∷ [])
gained c =
    let i = c.self.invariant in
    let p = part_of c.self.inside.seat.me.0 in
    let x = found c.before.before.before.before.before in
    let same : x.0 ≡ c.in-Some.m = same_Some _ _ (sym (c.of_code.ensures.only x.0 x.1 (sym x.2)) ∙ c.in-Some.is) in
    taken_part c.fetch_add-cursor.new.seat.me.0 c.self.inside.setup _ c.fetch_add-cursor.result (holding (Some c.in-Some.m) p) _ c.fetch_add-cursor.ensures.2.1
    (x.3 ∙ ap (λ (y : Triple). carrying c.self.inside.setup (holding (Some y) p ∷ [])) same) (ap (λ (y : ℕ). y + 2) (sym i.slot_is) ∙ sym c.cursor_at.ensures)

pub load-code-requires : goal.load-code-requires
load-code-requires c =
    let i = c.self.invariant in
    let room = i.sound.room in (
      search rules,
      omega (arith, c.move_word_at-word.ensures, near (goal.at.load-code-requires c).After-deref, room, i.joined_is, i.taken_is, ap (λ (z : BoardSetup). z.limits.plies) i.setup_is, i.words, ap (λ t. t.shared.table_id.words) c.deref.ensures),
      reading _ _ _ _ (c.self.inside.joined + c.self.inside.taken) _ (omega (arith, c.move_word_at-word.ensures, ap (λ (z : BoardSetup). z.limits.followers) i.key_is, ap (λ t. t.shared.key.limits.followers) c.deref.ensures)),
    )

pub unreachable-requires : goal.unreachable-requires
unreachable-requires c =
    let x = found (goal.at.unreachable-requires c).After-load-code in
    c.in_default.not-Some x.0 (c.of_code.ensures.only x.0 x.1 (sym x.2))

pub fetch_add-cursor-requires : goal.fetch_add-cursor-requires
fetch_add-cursor-requires c =
    let i = c.self.invariant in
    let now = ap (λ (h : FollowerSeat). h.part) c.self.view_is in
    let x = found (goal.at.fetch_add-cursor-requires c).After-load-code in
    let inside = i.sound.inside in (
      search rules,
      omega (arith, c.cursor_at.ensures, inside, i.slot_is, ap (λ (z : BoardSetup). z.limits.followers) i.setup_is, i.words, ap (λ t. t.shared.table_id.words) c.deref.ensures),
      taking _ _ _ _ 0 (holding (Some x.0) (part_of c.self.inside.seat.me.0)) x.0 _ (c.cursor_at.ensures ∙ ap (λ (y : ℕ). y + 2) i.slot_is) (ap (λ (u : View). get_elem? u.parts 0) x.3) refl
          (λ d e. subst (λ (q : Part). next_of q < d) (sym now) (c.requires.unclosed d (ap (λ (q : Part). q.closing) (sym now) ∙ e))),
    )

pub invariant_of-self : goal.invariant_of-self
invariant_of-self c =
    let i = c.self.invariant in
    let p = part_of c.self.inside.seat.me.0 in
    let f = c.load-code.ensures in
    let g = c.fetch_add-cursor.ensures in
    let longer : length (p.taken ++ c.in-Some.m ∷ []) ≡ length p.taken + 1 = length-append p.taken (c.in-Some.m ∷ []) in
    follower_of (gains c.fetch_add-cursor.result (holding (Some c.in-Some.m) p)) (gained (goal.at.invariant_of-self c).After-fetch_add-cursor) g.2.0.1 (g.2.0.0 ∙ f.2.0.0 ∙ i.none_held) (g.0 ∙ f.0 ∙ i.table) i.words i.key_is i.setup_is i.slot_is i.joined_is (omega (arith, i.taken_is, longer)) i.seen_is i.outcome_is (search rules)

pub returns-clause-part : goal.returns-clause-part
returns-clause-part c =
    let i = c.self.invariant in
    let cursor = c.fetch_add-cursor.result in
    let x = found (goal.at.returns-clause-part c).After-load-code in
    let known = ap (λ (h : FollowerSeat). h.part.closing) c.self.view_is in (
      cursor,
      ap part_of (gained (goal.at.returns-clause-part c).After-fetch_add-cursor) ∙ (λ k. gains cursor (holding (Some c.in-Some.m) (c.self.view_is k).part)),
      λ d e. c.fetch_add-cursor.ensures.2.2 0 (holding (Some x.0) (part_of c.self.inside.seat.me.0)) (ap (λ (u : View). get_elem? u.parts 0) x.3)
          (ap (λ (y : ℕ). y + 2) (sym i.slot_is) ∙ sym c.cursor_at.ensures) d (known ∙ e),
    )

pub returns-clause-sound : goal.returns-clause-sound
returns-clause-sound c =
    part_sound _ c.self.inside.setup (gains c.fetch_add-cursor.result (holding (Some c.in-Some.m) (part_of c.self.inside.seat.me.0))) (gained (goal.at.returns-clause-sound c).After-fetch_add-cursor) c.fetch_add-cursor.ensures.2.0.1
