-- An end, by what the map of boards answers.
use Rattle.std.proofs.Common.{◌≡◌, ℕ, Bool, true, false, not, cond, is_some, List, length, Option, Some, None, option_map, Result, Ok, Err, refl, sym, ap, ◌∙◌, inl}
use Rattle.std.specs.Map.{lookup}
use Rattle.c960_game.specs.declared.ending.Ending.{Ending}
use Rattle.c960_game.specs.declared.outcome.Outcome.{Outcome}
use Rattle.c960_game.specs.declared.refusal.Refusal.{Refusal}
use Rattle.c960_game.specs.declared.refusal.Refusal.TheVariants.{GameOver, ClaimRefused}
use Rattle.c960_game.specs.Ending.{named_outcome}
use Rattle.c960_game.specs.Ends.{own_outcome}
use Rattle.c960_game.specs.Tests.Ground.{has_ground}
use Rattle.c960_game.specs.Limits.{LimitNumbers}
use Rattle.c960_game.specs.Record.{end_answer}
use Rattle.c960_game.specs.GameRecord.{GameRecord}
use Rattle.relay_core.specs.declared.step.Step.TheVariants.{End}
use Rattle.relay_core.specs.declared.reply.Reply.{Reply}
use Rattle.relay_core.specs.declared.reply.Reply.TheVariants.{Ended, Refused}
use Rattle.relay_core.specs.BoardAnswers.{end_answer_at, ended_by}
use Rattle.relay_core.specs.Held.{Held, turned}
use Rattle.relay_core.specs.History.{History, start_of, log, end_of, named, or_else}
use Rattle.relay_core.specs.Held.Stands.{HeldStands, Goes}
use Rattle.relay_core.specs.Name.{same_name}
use Rattle.relay_core.specs.Replies.{reply_to_end}
use Rattle.relay_core.specs.Stands.{game_of}
use Rattle.relay_core.proofs.lemmas.Names.{same_name_is}
use Rattle.relay_core.proofs.lemmas.Refused.{goes_refused}

-- the reply that follows from a game's answer
abbrev reply_of_end : Result Outcome Refusal → Reply
reply_of_end (Ok outcome) = Ended outcome
reply_of_end (Err refusal) = Refused refusal

reply_to_ending : (limits : LimitNumbers) (h : History) (b : List ℕ) (e : Ending) (n : ℕ)
    → reply_to_end h b e (Some n) ≡ reply_of_end (end_answer (game_of limits h b n) e)
unfolding end_answer
reply_to_ending limits h b e n = by (is_some (end_of h n b)) (has_ground n (log h b) e)
  where
    by : (over fine : Bool) → cond over (Refused GameOver) (cond (not fine) (Refused ClaimRefused) (Ended (named_outcome e)))
        ≡ reply_of_end (cond over (Err GameOver) (cond fine (Ok (named_outcome e)) (Err ClaimRefused)))
    by true fine = refl
    by false true = refl
    by false false = refl

-- the reply that follows from the look-up's answer is the one that the history requires
asked : (limits : LimitNumbers) (r : Held) (h : History) (b : List ℕ) (e : Ending) → HeldStands limits r h
    → reply_of_end (end_answer_at e (lookup (same_name b) r.boards)) ≡ reply_to_end h b e (start_of h b)
asked limits r h b e st = ap (λ o. reply_of_end (end_answer_at e o)) (st.boards b) ∙ by (start_of h b)
  where
    by : (o : Option ℕ) → reply_of_end (end_answer_at e (option_map (game_of limits h b) o)) ≡ reply_to_end h b e o
    by None = refl
    by (Some n) = sym (reply_to_ending limits h b e n)

module _ (r : Held) (bs : List (List ℕ × GameRecord)) (b : List ℕ) (e : Ending) where
  pub end_goes : (outcome : Outcome) → Ok outcome ≡ end_answer_at e (lookup (same_name b) r.boards)
      → ((q : List ℕ) → lookup (same_name q) bs
      ≡ cond (same_name b q) (option_map (ended_by e) (lookup (same_name b) r.boards)) (lookup (same_name q) r.boards))
      → length bs ≡ length r.boards → Goes r (turned r bs r.followers) (End b e) (Ended outcome)
  end_goes outcome ok updates len limits h st = record {
    given = st.given;
    lawful = (inl (ap reply_of_end ok ∙ asked limits r h b e st), st.lawful);
    boards = λ q. updates q ∙ ap (cond (same_name b q) (option_map (ended_by e) (lookup (same_name b) r.boards))) (st.boards q)
        ∙ each q (same_name b q) (same_name_is b q);
    followers = st.followers;
    board_count = len ∙ st.board_count;
    followed = st.followed;
  }
    where
      -- the game ended at its board
      ended : (o : Option ℕ) → option_map (ended_by e) (option_map (game_of limits h b) o)
          ≡ option_map (λ s. record {
            start = s;
            plies = limits.plies;
            log = log h b;
            outcome = or_else (Some (named_outcome e)) (own_outcome s (log h b));
          }) o
      ended None = refl
      ended (Some n) = refl

      each : (q : List ℕ) (mine : Bool) → (mine ≡ true → b ≡ q)
          → cond mine (option_map (ended_by e) (lookup (same_name b) r.boards)) (option_map (game_of limits h q) (start_of h q))
          ≡ option_map (λ s. record {
            start = s;
            plies = limits.plies;
            log = log h q;
            outcome =
                or_else (cond mine (Some (named_outcome e)) (named h q)) (own_outcome s (log h q));
          }) (start_of h q)
      each q false same = refl
      each q true same = rw (← same refl) (ap (option_map (ended_by e)) (st.boards b) ∙ ended (start_of h b))

  pub end_refused : (refusal : Refusal) → Err refusal ≡ end_answer_at e (lookup (same_name b) r.boards) → bs ≡ r.boards
      → Goes r (turned r bs r.followers) (End b e) (Refused refusal)
  end_refused refusal failed same =
      goes_refused r bs r.followers (End b e) refusal same refl
      (λ limits h st. inl (ap reply_of_end failed ∙ asked limits r h b e st))
