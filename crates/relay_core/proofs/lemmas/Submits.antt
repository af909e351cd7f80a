-- A submit, by what the map of boards answers.
use Rattle.std.proofs.Common.{◌≡◌, ℕ, cond, List, ◌∷◌, length, Option, Some, None, option_map, Result, Ok, Err, refl, sym, ap, ◌∙◌, inl}
use Rattle.std.specs.Map.{lookup}
use Rattle.c960_board.specs.Moves.{Triple}
use Rattle.c960_game.specs.declared.outcome.Outcome.{Outcome}
use Rattle.c960_game.specs.declared.refusal.Refusal.{Refusal}
use Rattle.c960_game.specs.Limits.{LimitNumbers}
use Rattle.c960_game.specs.Record.{play_answer, with_move}
use Rattle.c960_game.specs.GameRecord.{GameRecord}
use Rattle.relay_core.specs.declared.step.Step.TheVariants.{Submit}
use Rattle.relay_core.specs.declared.reply.Reply.TheVariants.{Played, Refused}
use Rattle.relay_core.specs.declared.reply.Reply.{Reply}
use Rattle.relay_core.specs.BoardAnswers.{play_answer_at, with_place}
use Rattle.relay_core.specs.Held.Followers.{published}
use Rattle.relay_core.specs.Held.{HeldFollower, Held, turned}
use Rattle.relay_core.specs.History.{History, start_of, log}
use Rattle.relay_core.specs.Held.Stands.{HeldStands, Goes}
use Rattle.relay_core.specs.Name.{same_name}
use Rattle.relay_core.specs.Replies.{reply_to_submit}
use Rattle.relay_core.specs.Stands.{game_of}
use Rattle.relay_core.proofs.Lawful.{facts}
use Rattle.relay_core.proofs.lemmas.Refused.{goes_refused}
use Rattle.relay_core.proofs.Submitted.{submitted, reply_to_play, reply_of_play}

-- the reply that follows from the map's answer
abbrev reply_of : Result (ℕ × Option Outcome) Refusal → Reply
reply_of (Ok made) = Played made.0 made.1
reply_of (Err refusal) = Refused refusal

-- it is the one that the history requires
asked : (limits : LimitNumbers) (r : Held) (h : History) (b : List ℕ) (m : Triple) → HeldStands limits r h
    → reply_of (play_answer_at m (lookup (same_name b) r.boards)) ≡ reply_to_submit limits h b m (start_of h b)
asked limits r h b m st = ap (λ o. reply_of (play_answer_at m o)) (st.boards b) ∙ by (start_of h b)
  where
    placed : (place : ℕ) (a : Result (Option Outcome) Refusal) → reply_of (with_place place a) ≡ reply_of_play place a
    placed place (Ok outcome) = refl
    placed place (Err refusal) = refl

    by : (o : Option ℕ) → reply_of (play_answer_at m (option_map (game_of limits h b) o)) ≡ reply_to_submit limits h b m o
    by None = refl
    by (Some n) = placed (length (log h b)) (play_answer (game_of limits h b n) m) ∙ sym (reply_to_play limits h b m n)

module _ (r : Held) (bs : List (List ℕ × GameRecord)) (fs : List (ℕ × HeldFollower)) (b : List ℕ) (m : Triple) where
  accepted : (limits : LimitNumbers) (h : History) (n place : ℕ) (outcome : Option Outcome) → HeldStands limits r h
      → start_of h b ≡ Some n
      → with_place (length (log h b)) (play_answer (game_of limits h b n) m) ≡ Ok (place, outcome)
      → ((q : List ℕ) → lookup (same_name q) bs
      ≡ cond (same_name b q) (Some (with_move (game_of limits h b n) m)) (lookup (same_name q) r.boards))
      → length bs ≡ length r.boards → fs ≡ published b place m r.followers
      → HeldStands limits (turned r bs fs) ((Submit b m, Played place outcome) ∷ h)
  accepted limits h n place outcome st at ok updates len pushed = by (play_answer (game_of limits h b n) m) refl ok
    where
      by : (a : Result (Option Outcome) Refusal) → play_answer (game_of limits h b n) m ≡ a
          → with_place (length (log h b)) a ≡ Ok (place, outcome)
          → HeldStands limits (turned r bs fs) ((Submit b m, Played place outcome) ∷ h)
      by (Err refusal) e g = cc
      by (Ok o) e g =
          let pair : ◌≡◌ {A = ℕ × Option Outcome} (length (log h b), o) (place, outcome) = cc in
          let p : length (log h b) ≡ place = ap (λ x. x.0) pair in
          let q : o ≡ outcome = ap (λ x. x.1) pair in
          rw (pushed, ← p, ← q) (submitted limits r bs h b m n o st (facts limits h st.lawful) at e updates len)

  pub submit_goes : (place : ℕ) (outcome : Option Outcome)
      → Ok (place, outcome) ≡ play_answer_at m (lookup (same_name b) r.boards)
      → ((q : List ℕ) → lookup (same_name q) bs
      ≡ cond (same_name b q) (option_map (λ game. with_move game m) (lookup (same_name b) r.boards))
      (lookup (same_name q) r.boards))
      → length bs ≡ length r.boards → fs ≡ published b place m r.followers
      → Goes r (turned r bs fs) (Submit b m) (Played place outcome)
  submit_goes place outcome ok updates len pushed limits h st = by (start_of h b) refl
    where
      by : (o : Option ℕ) → start_of h b ≡ o → HeldStands limits (turned r bs fs) ((Submit b m, Played place outcome) ∷ h)
      by None e = let l : lookup (same_name b) r.boards ≡ None = st.boards b ∙ ap (option_map (game_of limits h b)) e in
          let g = ok ∙ ap (play_answer_at m) l in cc
      by (Some n) e = let l : lookup (same_name b) r.boards ≡ Some (game_of limits h b n) =
          st.boards b ∙ ap (option_map (game_of limits h b)) e in
          accepted limits h n place outcome st e (sym (ok ∙ ap (play_answer_at m) l))
          (λ q. updates q ∙ ap (λ o. cond (same_name b q) (option_map (λ game. with_move game m) o)
          (lookup (same_name q) r.boards)) l) len pushed

  pub submit_refused : (refusal : Refusal) → Err refusal ≡ play_answer_at m (lookup (same_name b) r.boards) → bs ≡ r.boards
      → fs ≡ r.followers
      → Goes r (turned r bs fs) (Submit b m) (Refused refusal)
  submit_refused refusal failed same_boards same_followers =
      goes_refused r bs fs (Submit b m) refusal same_boards same_followers
      (λ limits h st. inl (ap reply_of failed ∙ asked limits r h b m st))
