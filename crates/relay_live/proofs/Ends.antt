-- An end on a live relay.
use Rattle.std.proofs.Common.{◌≡◌, ◌≢◌, ◌+◌, ℕ, true, List, Ok, Err, Some, option_map, sym, refl, ap, ◌∙◌, subst}
use Rattle.std.specs.Prelude.{count_by}
use Rattle.std.specs.Map.{lookup, set_value}
use mathlib.Core.Option.{some}
use lib.ListN.{get_elem?}
use Rattle.c960_game.specs.declared.ending.Ending.{Ending}
use Rattle.c960_game.specs.declared.outcome.Outcome.{Outcome}
use Rattle.c960_game.specs.declared.refusal.Refusal.{Refusal}
use Rattle.c960_game.specs.Ending.{named_outcome}
use Rattle.c960_game.specs.Limits.{LimitNumbers}
use Rattle.relay_core.specs.declared.step.Step.TheVariants.{End}
use Rattle.relay_core.specs.declared.reply.Reply.TheVariants.{Ended, Refused}
use Rattle.relay_core.specs.BoardAnswers.{end_answer_at, ended_by}
use Rattle.relay_core.specs.Held.{HeldFollower}
use Rattle.relay_core.specs.Name.{same_name}
use Rattle.relay_core.proofs.lemmas.Ended.{end_goes, end_refused}
use Rattle.relay_core.proofs.lemmas.Lists.{lookup-map}
use Rattle.relay_core.specs.Held.Stands.{Goes}
use Rattle.relay_core.proofs.lemmas.Standing.{keeps}
use Rattle.relay_live.specs.declared.seated.Seated.{Seated}
use Rattle.live_board.specs.declared.note.Note.{Note}
use Rattle.live_board.specs.declared.note.Note.TheVariants.{Vacant}
use Rattle.live_board.specs.declared.view.View.{View}
use Rattle.live_board.specs.Board.{game_of, setup_of}
use Rattle.live_board.specs.Carried.{Carries}
use Rattle.live_board.specs.Seats.{BoardSeat}
use Rattle.relay_live.specs.Live.{Boards, held_by, game, games, holders, IsSeated, IsLive, vacancy}
use Rattle.live_board.specs.Shows.{total}
use Rattle.live_board.specs.Sound.{IsSound}
use Rattle.live_board.specs.Views.{finished}
use Rattle.relay_live.proofs.Swaps.{each_on, games_changed, games_counted, held_still, holders_on, seated_still}

module _ (limits : LimitNumbers) (old new : Boards) (fs : List (ℕ × Seated)) (name : List ℕ) (ending : Ending) (live : IsLive limits old fs)
    (b c : BoardSeat) (there : lookup (same_name name) old ≡ Some b) (is : c.knows ≡ finished (Some (named_outcome ending)) b.knows) (ok' : IsSound c.knows) (new-is : new ≡ set_value (same_name name) old c) where
  same_holders : holders limits.capacity new fs ≡ holders limits.capacity old fs
  same_holders = holders_on limits.capacity old new fs (λ i e d. held_still old new name b c there new-is limits.capacity e.1 (ap (λ (v : View). v.log) is) (λ same. ap (λ (v : View). get_elem? v.notes e.1.slot) is))

  seated_on : (f : Seated) → IsSeated old f → IsSeated new f
  seated_on f s = seated_still old new name b c there new-is f s (λ same e. (s.index, s.part, ap (λ (v : View). get_elem? v.parts s.index) is ∙ e, refl))

  module _ (outcome : Outcome) (answer : Ok outcome ≡ end_answer_at ending (option_map game (lookup (same_name name) old))) where
    pub goes : Goes (held_by limits old fs) (held_by limits new fs) (End name ending) (Ended outcome)
    goes = subst (λ (l : List (ℕ × HeldFollower)). Goes (held_by limits old fs) record { limits = limits; boards = games new; followers = l } (End name ending) (Ended outcome)) (sym same_holders)
        (end_goes (held_by limits old fs) (games new) name ending outcome (answer ∙ ap (end_answer_at ending) (sym (lookup-map (same_name name) game old)))
        (games_changed old new name b c there new-is (ended_by ending) (ap game_of is)) (games_counted old new name b c there new-is))

    pub lives : IsLive limits new fs
    lives = record {
      kept = keeps (held_by limits old fs) (held_by limits new fs) (End name ending) (Ended outcome) live.kept refl goes;
      setups = each_on old new name b c there new-is (λ q v. v.setup ≡ setup_of v.setup.start limits) live.setups (λ q same h. subst (λ (v : View). v.setup ≡ setup_of v.setup.start limits) (sym is) h);
      owns = each_on old new name b c there new-is (λ q v. v.owns ≡ true) live.owns (λ q same h. ap (λ (v : View). v.owns) is ∙ h);
      sound = each_on old new name b c there new-is (λ q v. IsSound v) live.sound (λ q same h. ok');
      seated = λ i e d. seated_on e.1 (live.seated i e d);
      apart = live.apart;
      carried = each_on old new name b c there new-is (λ q v. (k : ℕ) (n : Note) → get_elem? v.notes k ≡ some n → n ≢ Vacant → Carries v k) live.carried
          (λ q same h. subst (λ (v : View). (k : ℕ) (n : Note) → get_elem? v.notes k ≡ some n → n ≢ Vacant → Carries v k) (sym is) h);
      counted = each_on old new name b c there new-is (λ q v. count_by (λ e. same_name q e.1.board) fs + total vacancy v.notes ≡ limits.followers) live.counted
          (λ q same h. subst (λ (v : View). count_by (λ e. same_name q e.1.board) fs + total vacancy v.notes ≡ limits.followers) (sym is) h);
    }

pub goes_refused : (limits : LimitNumbers) (old new : Boards) (fs : List (ℕ × Seated)) (name : List ℕ) (ending : Ending) (refusal : Refusal) → Err refusal ≡ end_answer_at ending (option_map game (lookup (same_name name) old)) → new ≡ old
    → Goes (held_by limits old fs) (held_by limits new fs) (End name ending) (Refused refusal)
goes_refused limits old new fs name ending refusal answer same =
    subst (λ (x : Boards). Goes (held_by limits old fs) (held_by limits x fs) (End name ending) (Refused refusal)) (sym same)
    (end_refused (held_by limits old fs) (games old) name ending refusal (answer ∙ ap (end_answer_at ending) (sym (lookup-map (same_name name) game old))) refl)
