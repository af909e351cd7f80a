use Rattle.std.proofs.Common.{rules, arith, sym, refl, ap, ◌∙◌, ◌≡◌, ◌+◌, length, Some, true, ℕ}
use Rattle.std.proofs.lemmas.Option.{same_Some}
use Rattle.atomic_table.proofs.Lists.{at_map}
use mathlib.Core.Option.{some}
use lib.ListN.{get_elem?}
use Rattle.c960_board.specs.Moves.{Triple}
use Rattle.live_board.specs.SharedBoard.{move_at}
use Rattle.live_board.specs.declared.setup.BoardSetup.{BoardSetup}
use Rattle.live_board.specs.declared.view.View.{View}
use Rattle.live_board.specs.Views.{next_of, next_word, each_part, finds, gains, holding, only_at}
use Rattle.live_board.specs.Seats.{BoardSeat}
use Rattle.live_board.proofs.TableWriters.{writer_of}
use Rattle.live_board.proofs.Followers.{found_is}
use Rattle.live_board.proofs.Steps.{reading, taking}
use Rattle.live_board.proofs.table_writer.TableWriter.gain_at.Goals.{After-of_code}
use Rattle.live_board.proofs.table_writer.TableWriter.gain_at.Goals as goal

pub load-code-requires : goal.load-code-requires
load-code-requires c =
    let i = c.self.invariant in
    let b = i.sound.board i.owns in
    let room = b.room in
    let same = c.deref.ensures in (
      search rules,
      omega (arith, c.move_word_at-word.ensures, c.requires.within, ap (λ (h : BoardSeat). length h.knows.log) c.self.view_is, room, ap (λ (z : BoardSetup). z.limits.plies) i.setup_is, i.words, ap (λ t. t.shared.table_id.words) same),
      reading _ _ _ _ c.args.next _ (omega (arith, c.move_word_at-word.ensures, ap (λ (z : BoardSetup). z.limits.followers) i.key_is, ap (λ t. t.shared.key.limits.followers) same)),
    )

-- the follower's part is carried, and the word is that of its next move
carried : (c : After-of_code) → get_elem? c.self.inside.seat.me.0.parts c.requires.part.0 ≡ some c.requires.part.1
carried c = ap (λ (h : BoardSeat). get_elem? h.knows.parts c.requires.part.0) c.self.view_is ∙ c.requires.part.2

next : (c : After-of_code) → next_word c.requires.part.1 ≡ c.move_word_at-word.result
next c =
    let i = c.self.invariant in
    let q = c.requires.part in
    let setup = ((i.sound.board i.owns).inside q.0 q.1 (carried c)).1 ∙ i.setup_is in
    omega (arith, c.move_word_at-word.ensures, q.4, ap (λ (z : BoardSetup). z.limits.followers) setup)

-- the move that was loaded
read : (c : After-of_code) → (x : Triple) × (c.of_code.result ≡ Some x)
    × (c.load-code.new.seat.me.0 ≡ each_part (finds c.move_word_at-word.result x) c.self.inside.seat.me.0)
    × (c.self.inside.seat.me.0.owns ≡ true → x ≡ move_at c.self.inside.seat.me.0.log (next_of c.requires.part.1))
read c =
    let q = c.requires.part in
    let t = c.load-code.ensures.2.1 q.0 q.1 (carried c) (next c) q.5 in
    (t.0, c.of_code.ensures.only t.0 t.1 (sym t.2), t.3, t.4)

pub fetch_add-cursor-requires : goal.fetch_add-cursor-requires
fetch_add-cursor-requires c =
    let i = c.self.invariant in
    let q = c.requires.part in
    let at = (goal.at.fetch_add-cursor-requires c).After-of_code in
    let slot = (i.sound.board i.owns).inside q.0 q.1 (carried at) in
    let t = read at in
    let word = c.move_word_at-word.result in
    let mine : get_elem? c.load-code.new.seat.me.0.parts q.0 ≡ some (holding (Some t.0) q.1) =
    ap (λ (u : View). get_elem? u.parts q.0) t.2 ∙ at_map (finds word t.0) c.self.inside.seat.me.0.parts q.0 q.1 (carried at) ∙ ap some (found_is word t.0 q.1 q.5 (next at)) in (
      search rules,
      omega (arith, c.cursor_at.ensures, slot.0, q.3, ap (λ (z : BoardSetup). z.limits.followers) i.setup_is, i.words, ap (λ t. t.shared.table_id.words) c.deref.ensures),
      taking _ _ _ _ q.0 (holding (Some t.0) q.1) t.0 _ (c.cursor_at.ensures ∙ ap (λ (y : ℕ). y + 2) (sym q.3)) mine refl q.6,
    )

pub unreachable-requires : goal.unreachable-requires
unreachable-requires c =
    let t = read (goal.at.unreachable-requires c).After-of_code in
    c.in_default.not-Some t.0 t.1

now : (c : goal.After-fetch_add-cursor) → c.fetch_add-cursor.new.seat.me.0 ≡ each_part (only_at (c.args.slot + 2) (gains c.fetch_add-cursor.result)) (each_part (finds (c.self.inside.setup.limits.followers + 2 + c.args.next) c.in-Some.m) c.self.inside.seat.me.0)
now c =
    let t = read c.before.before.before.before in
    let same : t.0 ≡ c.in-Some.m = same_Some _ _ (sym t.1 ∙ c.in-Some.is) in
    c.fetch_add-cursor.ensures.2.1
    ∙ (λ k. each_part (only_at (c.cursor_at.ensures k) (gains c.fetch_add-cursor.result)) ((t.2 ∙ (λ j. each_part (finds (c.move_word_at-word.ensures j) (same j)) c.self.inside.seat.me.0)) k))

pub invariant_of-self : goal.invariant_of-self
invariant_of-self c =
    let i = c.self.invariant in
    let f = c.load-code.ensures in
    let g = c.fetch_add-cursor.ensures in
    writer_of _ (now c) (g.0 ∙ f.0 ∙ i.table) i.words i.key_is i.owns i.setup_is i.len_is i.notes_are i.least_is i.least_low i.vacant_is i.room_is (g.2.0.0 ∙ f.2.0.0 ∙ i.none_held) g.2.0.1

pub returns-clause-move_is : goal.returns-clause-move_is
returns-clause-move_is c =
    let t = read (goal.at.returns-clause-move_is c).After-of_code in
    let same : t.0 ≡ c.in-Some.m = same_Some _ _ (sym t.1 ∙ c.in-Some.is) in
    sym same ∙ t.3 c.self.invariant.owns ∙ ap (move_at c.self.inside.seat.me.0.log) c.requires.part.4 ∙ ap (λ (h : BoardSeat). move_at h.knows.log c.args.next) c.self.view_is

pub returns-clause-knows : goal.returns-clause-knows
returns-clause-knows c =
    let i = c.self.invariant in
    let is = c.self.view_is in
    let x : c.self.inside.seat.me.0 ≡ c.args.self.now.knows = ap (λ (h : BoardSeat). h.knows) is in
    let z = sym i.setup_is ∙ ap (λ (h : BoardSeat). h.knows.setup) is in
    (c.fetch_add-cursor.result, now c ∙ (λ k. each_part (only_at (c.args.slot + 2) (gains c.fetch_add-cursor.result)) (each_part (finds ((z k).limits.followers + 2 + c.args.next) c.in-Some.m) (x k))))
