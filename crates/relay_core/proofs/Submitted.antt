-- An accepted submit.
use Rattle.std.proofs.Common.{◌≡◌, ℕ, ◌+◌, ◌==◌, eqb, nat_eq, Bool, true, false, not, ◌&&◌, cond, is_some, List, [], ◌∷◌, ◌++◌, length, Option, Some, None, option_map, Result, Ok, Err, refl, sym, ap, subst, ◌∙◌, inl}
use Rattle.std.specs.Map.{lookup}
use Rattle.c960_board.specs.Moves.{Triple}
use Rattle.c960_game.specs.declared.outcome.Outcome.{Outcome}
use Rattle.c960_game.specs.declared.refusal.Refusal.{Refusal}
use Rattle.c960_game.specs.declared.refusal.Refusal.TheVariants.{GameOver, LogFull, Illegal}
use Rattle.c960_game.specs.Ends.{own_outcome}
use Rattle.c960_game.specs.Limits.{LimitNumbers}
use Rattle.c960_game.specs.Tests.Moves.{is_legal_move}
use Rattle.c960_game.specs.Positions.{last_position}
use Rattle.c960_game.specs.Record.{play_answer, with_move}
use Rattle.c960_game.specs.GameRecord.{GameRecord}
use Rattle.relay_core.specs.declared.step.Step.TheVariants.{Submit}
use Rattle.relay_core.specs.declared.reply.Reply.{Reply}
use Rattle.relay_core.specs.declared.reply.Reply.TheVariants.{Played, Refused}
use Rattle.relay_core.specs.Held.Followers.{offered, published, closed_at, queued}
use Rattle.relay_core.specs.Following.{board_of, joined, taken, next, closing_of, first_closing, is_behind}
use Rattle.relay_core.specs.Held.{HeldFollower, Held, turned}
use Rattle.relay_core.specs.History.{History, start_of, log, end_of, named, or_else}
use Rattle.relay_core.specs.Held.Stands.{HeldStands, held_follower_of}
use Rattle.relay_core.specs.Name.{same_name}
use Rattle.relay_core.specs.Replies.{reply_to_submit}
use Rattle.relay_core.specs.Stands.{game_of}
use Rattle.relay_core.proofs.Facts.{Facts, IsWithin}
use Rattle.relay_core.proofs.lemmas.Lists.{lookup-map, shown-shown, shown-same}
use Rattle.relay_core.proofs.lemmas.Names.{same_name_is}
use Rattle.relay_core.proofs.Queue.{cut_by, due_of, shape, one_more}

-- the reply that follows from a game's answer
abbrev pub reply_of_play : ℕ → Result (Option Outcome) Refusal → Reply
reply_of_play place (Ok outcome) = Played place outcome
reply_of_play place (Err refusal) = Refused refusal

pub reply_to_play : (limits : LimitNumbers) (h : History) (b : List ℕ) (m : Triple) (n : ℕ)
    → reply_to_submit limits h b m (Some n) ≡ reply_of_play (length (log h b)) (play_answer (game_of limits h b n) m)
unfolding play_answer
reply_to_play limits h b m n =
    by (is_some (end_of h n b)) (length (log h b) == limits.plies) (is_legal_move (last_position n (log h b)) m)
  where
    by : (over full fine : Bool)
        → cond over (Refused GameOver) (cond full (Refused LogFull)
        (cond (not fine) (Refused Illegal) (Played (length (log h b)) (own_outcome n (log h b ++ m ∷ [])))))
        ≡ reply_of_play (length (log h b)) (cond over (Err GameOver)
        (cond full (Err LogFull) (cond fine (Ok (own_outcome n (log h b ++ m ∷ []))) (Err Illegal))))
    by true full fine = refl
    by false true fine = refl
    by false false true = refl
    by false false false = refl

-- the game of a board, whose log a move joins or not
abbrev game_by : LimitNumbers → History → List ℕ → Triple → Bool → ℕ → GameRecord
game_by limits h q m joins start = record {
  start = start;
  plies = limits.plies;
  log = cond joins (log h q ++ m ∷ []) (log h q);
  outcome = or_else (named h q) (own_outcome start (cond joins (log h q ++ m ∷ []) (log h q)));
}

-- a board after a submit
board_after : (limits : LimitNumbers) (h : History) (b q : List ℕ) (m : Triple) (n : ℕ) (place : ℕ) (outcome : Option Outcome)
    → start_of h b ≡ Some n → named h b ≡ None
    → cond (same_name b q) (Some (with_move (game_of limits h b n) m)) (option_map (game_of limits h q) (start_of h q))
    ≡ option_map (game_of limits ((Submit b m, Played place outcome) ∷ h) q) (start_of h q)
board_after limits h b q m n place outcome at going = by (same_name b q) (same_name_is b q)
  where
    by : (same : Bool) → (same ≡ true → b ≡ q)
        → cond same (Some (with_move (game_of limits h b n) m)) (option_map (game_of limits h q) (start_of h q))
        ≡ option_map (game_by limits h q m same) (start_of h q)
    by false one_name = refl
    by true one_name = let e = one_name refl in rw (← e, at, going) refl

-- a follower with this cut, whose board's log a move joins or not
abbrev follower_by : LimitNumbers → History → ℕ → List ℕ → Triple → Bool → Option ℕ → HeldFollower
follower_by limits h who to m joins cut = shape to (joined h who) (length (taken h who)) limits.capacity (next h who) m cut
    (due_of (next h who) cut (cond joins (log h to ++ m ∷ []) (log h to)))

-- a follower after a submit
follower_after : (limits : LimitNumbers) (h : History) (b : List ℕ) (m : Triple) (outcome : Option Outcome) (who : ℕ)
    (to : List ℕ)
    → board_of h who ≡ Some to → IsWithin limits.capacity h who to
    → offered b (length (log h b)) m (held_follower_of limits h who to)
    ≡ held_follower_of limits ((Submit b m, Played (length (log h b)) outcome) ∷ h) who to
follower_after limits h b m outcome who to at w =
    subst (λ t. offered b (length (log h b)) m (held_follower_of limits h who to)
    ≡ follower_by limits h who to m (same_name b to) t)
    (same_cut (closing_of limits.capacity h who))
    (one_more to (joined h who) (length (taken h who)) limits.capacity (next h who) m (same_name b to)
    (closing_of limits.capacity h who)
    (same_name b to && eqb (length (log h b)) (next h who + limits.capacity)) (length (log h b)) (log h to)
    (λ e. ap (λ q. length (log h q)) (same_name_is b to e)) refl w.reached w.ends)
  where
    same_cut : (cut : Option ℕ) → cut_by cut (same_name b to && eqb (length (log h b)) (next h who + limits.capacity))
        (length (log h b)) ≡ first_closing limits.capacity h who b cut
    same_cut (Some c) = refl
    same_cut None = ap (λ o. cond (is_behind limits.capacity h who b o) (Some (length (log h b))) None) (sym at)

-- a follower keeps its board
same_board : (b : List ℕ) (place : ℕ) (m : Triple) (f : HeldFollower) → (offered b place m f).board ≡ f.board
same_board b place m f = by (same_name b f.board && not (is_some f.cut)) (length f.queue == f.capacity)
  where
    by : (mine full : Bool) → (cond mine (cond full (closed_at place f) (queued m f)) f).board ≡ f.board
    by false full = refl
    by true true = refl
    by true false = refl

-- a game that accepts a move has no outcome named
going : (limits : LimitNumbers) (h : History) (b : List ℕ) (m : Triple) (n : ℕ) (outcome : Option Outcome)
    → play_answer (game_of limits h b n) m ≡ Ok outcome → named h b ≡ None
unfolding play_answer
going limits h b m n outcome ok = by (named h b) refl ok
  where
    by : (o : Option Outcome) → named h b ≡ o
        → cond (is_some (or_else o (own_outcome n (log h b)))) (Err GameOver)
        (cond (length (log h b) == limits.plies) (Err LogFull)
        (cond (is_legal_move (last_position n (log h b)) m) (Ok (own_outcome n (log h b ++ m ∷ []))) (Err Illegal)))
        ≡ Ok outcome
        → named h b ≡ None
    by None e g = e
    by (Some x) e g = cc

-- the relay after a submit
pub submitted : (limits : LimitNumbers) (r : Held) (bs : List (List ℕ × GameRecord)) (h : History) (b : List ℕ) (m : Triple)
    (n : ℕ) (outcome : Option Outcome)
    → HeldStands limits r h → Facts limits h → start_of h b ≡ Some n → play_answer (game_of limits h b n) m ≡ Ok outcome
    → ((q : List ℕ) → lookup (same_name q) bs
    ≡ cond (same_name b q) (Some (with_move (game_of limits h b n) m)) (lookup (same_name q) r.boards))
    → length bs ≡ length r.boards
    → HeldStands limits (turned r bs (published b (length (log h b)) m r.followers))
    ((Submit b m, Played (length (log h b)) outcome) ∷ h)
submitted limits r bs h b m n outcome st facts at ok updates len = record {
  given = st.given;
  lawful = (
    inl (sym (ap (reply_to_submit limits h b m) at ∙ reply_to_play limits h b m n
        ∙ ap (reply_of_play (length (log h b))) ok)),
    st.lawful,
  );
  boards = λ q. updates q ∙ ap (λ o. cond (same_name b q) (Some (with_move (game_of limits h b n) m)) o) (st.boards q)
      ∙ board_after limits h b q m n (length (log h b)) outcome at (going limits h b m n outcome ok);
  followers = λ who. lookup-map (nat_eq who) (offered b (length (log h b)) m) r.followers
      ∙ ap (option_map (offered b (length (log h b)) m)) (st.followers who) ∙ each who (board_of h who) refl;
  board_count = len ∙ st.board_count;
  followed = shown-shown (λ (f : HeldFollower). f.board) (offered b (length (log h b)) m) r.followers
      ∙ shown-same (λ (f : HeldFollower). (offered b (length (log h b)) m f).board) (λ (f : HeldFollower). f.board)
      (same_board b (length (log h b)) m) r.followers ∙ st.followed;
}
  where
    each : (who : ℕ) (o : Option (List ℕ)) → board_of h who ≡ o
        → option_map (offered b (length (log h b)) m) (option_map (held_follower_of limits h who) o)
        ≡ option_map (held_follower_of limits ((Submit b m, Played (length (log h b)) outcome) ∷ h) who) o
    each who None e = refl
    each who (Some to) e = ap Some (follower_after limits h b m outcome who to e (facts.within who to e))
