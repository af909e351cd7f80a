use Rattle.std.proofs.Common.{◌≡◌, ◌∷◌, [], length, refl, rules, ap, ◌∙◌, sym, subst}
use Rattle.live_board.specs.Sound.{IsSound}
use Rattle.live_board.specs.declared.setup.BoardSetup.{BoardSetup}
use Rattle.live_board.specs.Views.{carrying, given_part, kept_part, newcomer}
use Rattle.live_board.proofs.Allowed.{allows_splitting}
use Rattle.live_board.proofs.TableWriters.{writer_of}
use Rattle.live_board.specs.Seats.{BoardSeat}
use Rattle.live_board.proofs.Followers.{follower_of, part_sound}
use Rattle.live_board.proofs.Hands.{kept_sound, given_sound}
use Rattle.live_board.proofs.table_writer.TableWriter.sit.Goals.{After-split_seat-seat}
use Rattle.live_board.proofs.table_writer.TableWriter.sit.Goals as goal

-- the seat that is handed out
module _ (c : After-split_seat-seat) where
  setup : c.args.self.now.knows.setup ≡ c.self.inside.setup
  setup = ap (λ (h : BoardSeat). h.knows.setup) (sym c.self.view_is) ∙ c.self.invariant.setup_is

  handed : c.split_seat-seat.result.me.0 ≡ carrying c.self.inside.setup (newcomer c.args.slot c.args.from c.args.self.now.knows ∷ [])
  handed =
      ap (λ m. m.0) c.split_seat-seat.ensures.4 ∙ ap (λ (h : BoardSeat). given_part h.knows) c.self-2.view_is ∙ ap given_part c.join_at.ensures.knows
      ∙ ap (λ (z : BoardSetup). carrying z (newcomer c.args.slot c.args.from c.args.self.now.knows ∷ [])) setup

  handed_sound : IsSound c.split_seat-seat.result.me.0
  handed_sound = subst IsSound (sym (ap (λ m. m.0) c.split_seat-seat.ensures.4)) (given_sound c.self-2.inside.seat.me.0 c.self-2.invariant.sound)

pub split_seat-seat-requires : goal.split_seat-seat-requires
split_seat-seat-requires c = (search rules, search rules, allows_splitting _ _ _)

pub invariant_of-self : goal.invariant_of-self
invariant_of-self c =
    let i = c.self-2.invariant in
    let v = c.self-2.inside.seat.me.0 in
    let e = c.split_seat-seat.ensures in
    let view = ap (λ m. m.0) e.2 in
    writer_of (kept_part v) view (e.0 ∙ i.table) i.words i.key_is i.owns i.setup_is i.len_is i.notes_are i.least_is i.least_low i.vacant_is i.room_is (ap (λ m. m.1) e.2 ∙ i.none_held) (subst IsSound (sym view) (kept_sound v i.sound))

pub returns-clause-sound : goal.returns-clause-sound
returns-clause-sound c = subst IsSound (sym (ap (λ m. m.0) c.split_seat-seat.ensures.2)) (kept_sound c.self-2.inside.seat.me.0 c.self-2.invariant.sound)

pub invariant_of-result : goal.invariant_of-result
invariant_of-result c =
    let late = (goal.at.invariant_of-result c).After-split_seat-seat in
    follower_of _ (handed late) (handed_sound late) (ap (λ m. m.1) c.split_seat-seat.ensures.4) (search rules) (search rules) (search rules) (setup late) refl refl refl
    (c.self.invariant.len_is ∙ ap (λ (h : BoardSeat). length h.knows.log) c.self.view_is) c.requires.outcome refl

pub returns-clause-sound_part : goal.returns-clause-sound_part
returns-clause-sound_part c =
    let late = (goal.at.returns-clause-sound_part c).After-split_seat-seat in
    part_sound c.split_seat-seat.result.me.0 c.self.inside.setup _ (handed late) (handed_sound late)
