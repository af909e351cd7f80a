use Rattle.std.proofs.Common.{◌≡◌, rules, arith, ap, sym, subst, ◌∙◌, ◌<◌, ◌-◌, set, length, ℕ}
use lib.ListN.{get_elem?}
use Rattle.live_board.specs.declared.setup.BoardSetup.{BoardSetup}
use Rattle.live_board.specs.declared.note.Note.TheVariants.{Open}
use Rattle.live_board.specs.Words.{place_in}
use Rattle.live_board.specs.Views.{followed}
use Rattle.live_board.specs.Seats.{BoardSeat, NoneBefore}
use Rattle.live_board.proofs.TableWriters.{none_before_set, writer_of}
use Rattle.live_board.proofs.lemmas.Notes.{same_open}
use Rattle.live_board.proofs.Hands.{followed_is}
use Rattle.live_board.proofs.Steps.{following}
use Rattle.live_board.proofs.table_writer.TableWriter.join_at.Goals.{After-store}
use Rattle.live_board.proofs.table_writer.TableWriter.join_at.Goals as goal

-- the view after the cursor was stored
seated : (c : After-store) → c.store.new.seat.me.0 ≡ followed c.args.slot c.args.from c.self.inside.seat.me.0
seated c =
    let i = c.self.invariant in
    let b = i.sound.board i.owns in
    let room = b.room in
    let plies = b.limits.most_plies in
    followed_is c.store.new.seat.me.0 c.self.inside.seat.me.0 c.args.slot c.args.from _ (c.store.ensures.2.1 ∙ ap (λ (y : ℕ). followed (y - 2) (place_in c.open_cursor-cursor.result) c.self.inside.seat.me.0) c.cursor_at.ensures) c.open_cursor-cursor.ensures
    (omega (arith, c.requires.from.0, ap (λ (h : BoardSeat). length h.knows.log) c.self.view_is, room, plies))

pub open_cursor-cursor-requires : goal.open_cursor-cursor-requires
open_cursor-cursor-requires c =
    let i = c.self.invariant in
    let b = i.sound.board i.owns in
    let room = b.room in
    let plies = b.limits.most_plies in
    omega (arith, c.requires.from.0, ap (λ (h : BoardSeat). length h.knows.log) c.self.view_is, room, plies)

pub store-requires : goal.store-requires
store-requires c =
    let i = c.self.invariant in
    let is = c.self.view_is in
    let b = i.sound.board i.owns in
    let room = b.room in
    let plies = b.limits.most_plies in
    let same = c.deref.ensures in
    let inside : c.args.slot < c.self.inside.setup.limits.followers = omega (arith, c.requires.inside, ap (λ (h : BoardSeat). h.knows.setup.limits.followers) is, ap (λ (z : BoardSetup). z.limits.followers) i.setup_is) in (
      search rules,
      omega (arith, c.cursor_at.ensures, inside, i.words, ap (λ t. t.shared.table_id.words) same),
      following _ _ _ _ c.args.slot c.args.from _ _ c.cursor_at.ensures c.open_cursor-cursor.ensures (omega (arith, inside, ap (λ (z : BoardSetup). z.limits.followers) i.key_is, ap (λ t. t.shared.key.limits.followers) same)) i.owns
          (ap (λ (h : BoardSeat). get_elem? h.knows.notes c.args.slot) is ∙ c.requires.vacant) (omega (arith, c.requires.from.0, ap (λ (h : BoardSeat). length h.knows.log) is))
          (omega (arith, c.requires.from.1, ap (λ (h : BoardSeat). length h.knows.log) is, ap (λ (h : BoardSeat). h.knows.setup.limits.capacity) is, ap (λ (z : BoardSetup). z.limits.capacity) i.setup_is, ap (λ (z : BoardSetup). z.limits.capacity) i.key_is, ap (λ t. t.shared.key.limits.capacity) same))
          (omega (arith, c.requires.from.0, ap (λ (h : BoardSeat). length h.knows.log) is, room, plies)),
    )

pub invariant_of-self : goal.invariant_of-self
invariant_of-self c =
    let i = c.self.invariant in
    let f = c.store.ensures in
    let e = c.set_note.ensures in
    writer_of _ (seated (goal.at.invariant_of-self c).After-store) (f.0 ∙ i.table) i.words i.key_is i.owns i.setup_is i.len_is (e.items ∙ ap (λ l. set l c.args.slot (Open c.args.from c.args.from)) i.notes_are)
    (subst (NoneBefore c.min-self-inside.result) (sym e.items)
    (none_before_set _ c.args.slot _ (Open c.args.from c.args.from) (λ k j b o. omega (arith, i.least_is k j b o, c.min-self-inside.ensures)) (λ j b o. omega (arith, same_open _ _ _ _ o, c.min-self-inside.ensures)))) (omega (arith, i.least_low, c.min-self-inside.ensures))
    (e.vacant i.vacant_is) (e.room ∙ i.room_is) (f.2.0.0 ∙ i.none_held) f.2.0.1

pub returns-clause-knows : goal.returns-clause-knows
returns-clause-knows c = seated (goal.at.returns-clause-knows c).After-store ∙ ap (λ (h : BoardSeat). followed c.args.slot c.args.from h.knows) c.self.view_is
