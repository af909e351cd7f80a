-- A submit to a live relay.
use Rattle.std.proofs.Common.{◌≡◌, ◌≢◌, ◌==◌, ℕ, suc, ◌+◌, Bool, true, false, List, [], ◌∷◌, length, Result, Ok, Err, Option, Some, option_map, sym, refl, ap, ◌∙◌, arith, cond, ◌&&◌, not, is_some}
use Rattle.std.proofs.lemmas.Option.{same_Some}
use Rattle.std.specs.Prelude.{count_by}
use Rattle.live_board.specs.declared.note.Note.{Note}
use Rattle.live_board.specs.declared.note.Note.TheVariants.{Vacant}
use Rattle.std.specs.Map.{lookup, set_value}
use mathlib.Core.Option.{some}
use lib.ListN.{get_elem?}
use Rattle.c960_board.specs.Moves.{Triple}
use Rattle.c960_game.specs.declared.outcome.Outcome.{Outcome}
use Rattle.c960_game.specs.declared.refusal.Refusal.{Refusal}
use Rattle.c960_game.specs.Limits.{LimitNumbers}
use Rattle.c960_game.specs.Record.{play_answer, with_move}
use Rattle.relay_core.specs.declared.step.Step.TheVariants.{Submit}
use Rattle.relay_core.specs.declared.reply.Reply.TheVariants.{Played, Refused}
use Rattle.relay_core.specs.BoardAnswers.{play_answer_at, with_place}
use Rattle.relay_core.specs.Held.Followers.{offered, published, closed_at, queued}
use Rattle.relay_core.specs.Name.{same_name}
use Rattle.relay_core.proofs.lemmas.Lists.{lookup-map}
use Rattle.relay_core.proofs.lemmas.Names.{same_name_is}
use Rattle.relay_core.specs.Held.Stands.{Goes}
use Rattle.relay_core.proofs.lemmas.Standing.{keeps}
use Rattle.relay_core.proofs.lemmas.Submits.{submit_goes, submit_refused}
use Rattle.relay_live.specs.declared.seated.Seated.{Seated}
use Rattle.live_board.specs.declared.setup.BoardSetup.{BoardSetup}
use Rattle.live_board.specs.declared.view.View.{View}
use Rattle.live_board.specs.Board.{game_of, setup_of}
use Rattle.live_board.specs.Carried.{Carries}
use Rattle.live_board.specs.TableWriter.{Submitted}
use Rattle.live_board.specs.Seats.{BoardSeat}
use Rattle.relay_live.specs.Live.{Boards, held_at, held_in, view_in, held_by, game, games, holders, IsSeated, IsLive, vacancy}
use Rattle.live_board.specs.Shows.{total}
use Rattle.live_board.specs.Sound.{IsSound, IsSoundBoard}
use Rattle.live_board.specs.Views.{published as published_view, storing}
use Rattle.relay_live.proofs.Offers.{bares, carried_after, offered_here, same_part, setup-is, shut, still_owns, vacancies}
use Rattle.relay_live.proofs.Swaps.{each_on, games_changed, games_counted, seated_still, sound_board, swapped_before, swapped_elsewhere, swapped_here}

module _ (limits : LimitNumbers) (old new : Boards) (fs : List (ℕ × Seated)) (name : List ℕ) (m : Triple) (live : IsLive limits old fs)
    (b c : BoardSeat) (there : lookup (same_name name) old ≡ Some b) (sub : Submitted m b.knows c.knows) (sound' : IsSound c.knows) (new-is : new ≡ set_value (same_name name) old c) where
  ok : IsSoundBoard b.knows
  ok = sound_board limits old fs live name b there

  ok' : IsSoundBoard c.knows
  ok' = sound'.board (still_owns m b.knows c.knows sub ∙ live.owns name b there)

  setup : c.knows.setup ≡ b.knows.setup
  setup = setup-is m b.knows c.knows sub

  seated_on : (f : Seated) → IsSeated old f → IsSeated new f
  seated_on f s = seated_still old new name b c there new-is f s (λ same e. let q = same_part b.knows c.knows s.index s.part (bares m b.knows c.knows sub) e in (s.index, q.0, q.1, q.2))

  offered_on : (f : Seated) → IsSeated old f → held_at limits.capacity new f ≡ offered name (length b.knows.log) m (held_at limits.capacity old f)
  offered_on f s = by (same_name name f.board) refl
    where
      by : (t : Bool) → same_name name f.board ≡ t → held_at limits.capacity new f ≡ offered name (length b.knows.log) m (held_at limits.capacity old f)
      by false e =
          let h = held_at limits.capacity old f in
          ap (λ o. held_in limits.capacity (view_in o) f) (swapped_elsewhere old new name b c there new-is f.board e)
          ∙ sym (λ i. cond (e i && not (is_some h.cut)) (cond (length h.queue == h.capacity) (closed_at (length b.knows.log) h) (queued m h)) h)
      by true e =
          let same = same_name_is name f.board e in
          let was = swapped_before old new name b c there new-is f.board same in
          let now = swapped_here old new name b c there new-is f.board same in
          let is : s.board ≡ b = same_Some _ _ (sym s.there ∙ was) in
          ap (λ o. held_in limits.capacity (view_in o) f) now
          ∙ offered_here limits.capacity f name m b.knows c.knows s.index s.part ok ok' (ap (λ (z : BoardSetup). z.limits.capacity) (live.setups name b there)) sub
          (ap (λ (x : BoardSeat). get_elem? x.knows.parts s.index) (sym is) ∙ s.carried) s.slot_is s.joined_is s.taken_is e
          ∙ ap (λ o. offered name (length b.knows.log) m (held_in limits.capacity (view_in o) f)) (sym was)

  pushed : (l : List (ℕ × Seated)) → ((i : ℕ) (e : ℕ × Seated) → get_elem? l i ≡ some e → IsSeated old e.1) → holders limits.capacity new l ≡ published name (length b.knows.log) m (holders limits.capacity old l)
  pushed [] all = refl
  pushed (x ∷ xs) all = λ i. (x.0, offered_on x.1 (all 0 x refl) i) ∷ pushed xs (λ k e d. all (suc k) e d) i

  moved : game c ≡ with_move (game b) m
  moved = ap game_of sub.2 ∙ ap (λ (u : View). game_of (published_view m (storing m u))) (shut m b.knows c.knows sub).tidied.same

  module _ (place : ℕ) (outcome : Option Outcome) (answer : Ok (place, outcome) ≡ play_answer_at m (option_map game (lookup (same_name name) old))) where
    place_is : place ≡ length b.knows.log
    place_is = by (play_answer (game b) m) (answer ∙ ap (λ o. play_answer_at m (option_map game o)) there)
      where
        by : (a : Result (Option Outcome) Refusal) → Ok (place, outcome) ≡ with_place (length b.knows.log) a → place ≡ length b.knows.log
        by (Ok x) e = let pair : ◌≡◌ {A = ℕ × Option Outcome} (place, outcome) (length b.knows.log, x) = cc in ap (λ y. y.0) pair
        by (Err x) e = cc

    pub goes : Goes (held_by limits old fs) (held_by limits new fs) (Submit name m) (Played place outcome)
    goes = submit_goes (held_by limits old fs) (games new) (holders limits.capacity new fs) name m place outcome
        (answer ∙ ap (play_answer_at m) (sym (lookup-map (same_name name) game old)))
        (games_changed old new name b c there new-is (λ g. with_move g m) moved) (games_counted old new name b c there new-is)
        (pushed fs live.seated ∙ ap (λ (x : ℕ). published name x m (holders limits.capacity old fs)) (sym place_is))

    pub lives : IsLive limits new fs
    lives = record {
      kept = keeps (held_by limits old fs) (held_by limits new fs) (Submit name m) (Played place outcome) live.kept refl goes;
      setups = each_on old new name b c there new-is (λ q v. v.setup ≡ setup_of v.setup.start limits) live.setups
          (λ q same h. setup ∙ h ∙ ap (λ (z : BoardSetup). setup_of z.start limits) (sym setup));
      owns = each_on old new name b c there new-is (λ q v. v.owns ≡ true) live.owns (λ q same h. still_owns m b.knows c.knows sub ∙ h);
      sound = each_on old new name b c there new-is (λ q v. IsSound v) live.sound (λ q same h. sound');
      seated = λ i e d. seated_on e.1 (live.seated i e d);
      apart = live.apart;
      carried = each_on old new name b c there new-is (λ q v. (k : ℕ) (n : Note) → get_elem? v.notes k ≡ some n → n ≢ Vacant → Carries v k) live.carried
          (λ q same h. carried_after m b.knows c.knows ok' sub ok.noted h);
      counted = each_on old new name b c there new-is (λ q v. count_by (λ e. same_name q e.1.board) fs + total vacancy v.notes ≡ limits.followers) live.counted
          (λ q same h. omega (arith, h, vacancies m b.knows c.knows ok' sub ok.noted (live.carried name b there)));
    }

-- a submit that the board refuses
pub goes_refused : (limits : LimitNumbers) (old new : Boards) (fs : List (ℕ × Seated)) (name : List ℕ) (m : Triple) (refusal : Refusal) → Err refusal ≡ play_answer_at m (option_map game (lookup (same_name name) old)) → new ≡ old
    → Goes (held_by limits old fs) (held_by limits new fs) (Submit name m) (Refused refusal)
goes_refused limits old new fs name m refusal answer same =
    submit_refused (held_by limits old fs) (games new) (holders limits.capacity new fs) name m refusal
    (answer ∙ ap (play_answer_at m) (sym (lookup-map (same_name name) game old))) (ap games same) (ap (λ (b : Boards). holders limits.capacity b fs) same)
