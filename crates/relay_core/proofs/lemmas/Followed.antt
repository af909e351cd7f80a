-- A follow of a board that exists.
use Rattle.std.proofs.Common.{◌≡◌, ℕ, ◌+◌, ◌≤◌, nat_eq, nat_le, Bool, true, false, cond, is_some, List, [], ◌∷◌, ◌++◌, length, drop, take, unwrap_or, count_by, fold, Option, Some, None, option_map, Ok, Err, refl, sym, ap, subst, ◌∙◌, inl, inr, add-zero}
use Rattle.std.specs.Map.{lookup}
use Rattle.std.proofs.lemmas.Bool.{eqb-true}
use Rattle.std.specs.Cmp.{nat_eq_equiv}
use Rattle.c960_board.specs.Moves.{Triple}
use Rattle.c960_game.specs.declared.refusal.Refusal.{Refusal}
use Rattle.c960_game.specs.declared.refusal.Refusal.TheVariants.{OutOfMemory}
use Rattle.c960_game.specs.Limits.{LimitNumbers}
use Rattle.c960_board.specs.declared.parts.Parts.{Parts}
use Rattle.c960_game.specs.Positions.{last_position, position_at}
use Rattle.c960_game.proofs.lemmas.LogFacts.{position_made}
use Rattle.c960_game.specs.GameRecord.{GameRecord}
use Rattle.relay_core.specs.declared.step.Step.TheVariants.{Follow}
use Rattle.relay_core.specs.declared.reply.Reply.{Reply}
use Rattle.relay_core.specs.declared.reply.Reply.TheVariants.{Following, Refused}
use Rattle.relay_core.specs.BoardAnswers.{place_in}
use Rattle.relay_core.specs.Held.Followers.{joining, boards_of}
use Rattle.relay_core.specs.Following.{following, board_of, crowd, place_of, joined, taken, closing_of}
use Rattle.relay_core.specs.Held.{HeldFollower, Held, turned}
use Rattle.relay_core.specs.History.{History, is_accepted, log, start_of}
use Rattle.relay_core.specs.Held.Stands.{HeldStands, held_follower_of, Goes}
use Rattle.relay_core.specs.Name.{same_name}
use Rattle.relay_core.specs.Refusals.{first_refusal, follow_grounds}
use Rattle.relay_core.specs.Replies.{first_of, reply_to_follow}
use Rattle.relay_core.specs.Stands.{game_of}
use Rattle.relay_core.proofs.lemmas.Lists.{shown-push, lookup-push, first_some, none_below}
use Rattle.c960_board.proofs.lemmas.Tests.{none_of}
use Rattle.relay_core.proofs.lemmas.Refusals.{followed_where, reply_accepted, reply_refused}
use Rattle.relay_core.proofs.lemmas.Refused.{goes_refused}
use Rattle.std.proofs.Math.Seq.{take-length}

-- a spectator after a board is followed from a place, by that spectator or another
abbrev follower_when : LimitNumbers → History → ℕ → Bool → ℕ → List ℕ → HeldFollower
follower_when limits h place mine q to = record {
  board = to;
  joined = cond mine place (joined h q);
  taken = length (cond mine [] (taken h q));
  cut = cond mine None (closing_of limits.capacity h q);
  queue = drop (cond mine place (joined h q) + length (cond mine [] (taken h q)))
      (take (unwrap_or (cond mine None (closing_of limits.capacity h q)) (length (log h to))) (log h to));
  capacity = limits.capacity;
}

-- how many follow a board
count_shown : (b : List ℕ) (fs : List (ℕ × HeldFollower))
    → count_by (λ e. same_name b e.1) (boards_of fs) ≡ count_by (λ e. same_name b e.1.board) fs
count_shown b fs = from 0 fs
  where
    from : (k : ℕ) (xs : List (ℕ × HeldFollower))
        → fold (λ (a : ℕ) (e : ℕ × List ℕ). a + cond (same_name b e.1) 1 0) k (boards_of xs)
        ≡ fold (λ (a : ℕ) (e : ℕ × HeldFollower). a + cond (same_name b e.1.board) 1 0) k xs
    from k [] = refl
    from k (x ∷ xs) = from (k + cond (same_name b x.1.board) 1 0) xs

abbrev accepted : Option ℕ → GameRecord → Reply
accepted from game = Following (place_in from game) (last_position game.start (take (place_in from game) game.log))

module _ (r : Held) (who : ℕ) (b : List ℕ) (from : Option ℕ) (game : GameRecord)
    (found : lookup (same_name b) r.boards ≡ Some game) where
  -- the board's start, and its game
  known : (limits : LimitNumbers) (h : History) → HeldStands limits r h
      → (n : ℕ) × (start_of h b ≡ Some n) × (game ≡ game_of limits h b n)
  known limits h st = by (start_of h b) refl
    where
      by : (o : Option ℕ) → start_of h b ≡ o → (n : ℕ) × (start_of h b ≡ Some n) × (game ≡ game_of limits h b n)
      by None e = let g = sym found ∙ st.boards b ∙ ap (option_map (game_of limits h b)) e in cc
      by (Some n) e = let g = sym found ∙ st.boards b ∙ ap (option_map (game_of limits h b)) e in
          let same : game ≡ game_of limits h b n = cc in (n, e, same)

  -- why the relay may not let the spectator follow it
  abbrev pub grounds : List (Bool × Refusal)
  grounds = follow_grounds (is_some (lookup (nat_eq who) r.followers)) (length game.log) (place_in from game) r.limits.capacity
      (nat_le r.limits.followers (count_by (λ e. same_name b e.1.board) r.followers))

  -- what the history requires
  asked : (limits : LimitNumbers) (h : History) → HeldStands limits r h
      → reply_to_follow limits h who b (place_of h b from) (start_of h b) ≡ first_of grounds (accepted from game)
  asked limits h st = let (n, at, same) = known limits h st in
      ap (reply_to_follow limits h who b (place_of h b from)) at
      ∙ ap (λ (g : GameRecord). first_of (follow_grounds (is_some (board_of h who)) (length g.log) (place_in from g)
      limits.capacity (nat_le limits.followers (crowd h b))) (accepted from g)) (sym same)
      ∙ ap (λ t. first_of (follow_grounds t (length game.log) (place_in from game) limits.capacity
      (nat_le limits.followers (crowd h b))) (accepted from game))
      (same_some (board_of h who) (held_follower_of limits h who) ∙ ap is_some (sym (st.followers who)))
      ∙ ap (λ k. first_of (follow_grounds (is_some (lookup (nat_eq who) r.followers)) (length game.log) (place_in from game)
      limits.capacity (nat_le limits.followers k)) (accepted from game))
      (ap (count_by (λ e. same_name b e.1)) (sym st.followed) ∙ count_shown b r.followers)
      ∙ ap (λ (l : LimitNumbers). first_of (follow_grounds (is_some (lookup (nat_eq who) r.followers)) (length game.log)
      (place_in from game) l.capacity (nat_le l.followers (count_by (λ e. same_name b e.1.board) r.followers)))
      (accepted from game)) (sym st.given)
    where
      same_some : (o : Option (List ℕ)) (f : List ℕ → HeldFollower) → is_some o ≡ is_some (option_map f o)
      same_some None f = refl
      same_some (Some x) f = refl

  pub follow_refused : (refusal : Refusal) → Err refusal ≡ first_refusal grounds → Goes r r (Follow who b from) (Refused refusal)
  follow_refused refusal e = goes_refused r r.boards r.followers (Follow who b from) refusal refl refl
      (λ limits h st. inl (sym (asked limits h st ∙ reply_refused grounds (accepted from game) refusal e)))

  module _ (u : Unit {0}) (fine : Ok u ≡ first_refusal grounds) where
    holds : (is_some (lookup (nat_eq who) r.followers) ≡ false) × (place_in from game ≤ length game.log)
    holds =
        let w = followed_where (is_some (lookup (nat_eq who) r.followers)) (length game.log) (place_in from game) r.limits.capacity
        (nat_le r.limits.followers (count_by (λ e. same_name b e.1.board) r.followers)) u fine in
        (w.0, w.1)

    none : lookup (nat_eq who) r.followers ≡ None
    none = none_of (lookup (nat_eq who) r.followers) holds.0

    low : place_in from game ≤ length game.log
    low = holds.1

    nowhere : (limits : LimitNumbers) (h : History) → HeldStands limits r h → board_of h who ≡ None
    nowhere limits h st = none_below (held_follower_of limits h who) (board_of h who) (sym (st.followers who) ∙ none)

    asked_fine : (limits : LimitNumbers) (h : History) → HeldStands limits r h
        → reply_to_follow limits h who b (place_of h b from) (start_of h b) ≡ accepted from game
    asked_fine limits h st = asked limits h st ∙ reply_accepted grounds (accepted from game) u fine

    pub follow_no_memory : (fs : List (ℕ × HeldFollower)) → fs ≡ r.followers
        → Goes r (turned r r.boards fs) (Follow who b from) (Refused OutOfMemory)
    follow_no_memory fs same = goes_refused r r.boards fs (Follow who b from) OutOfMemory refl same
        (λ limits h st. inr (refl, ap is_accepted (asked_fine limits h st), refl))

    goes : (fs : List (ℕ × HeldFollower))
        → fs ≡ r.followers ++ (who, joining b (place_in from game) game.log r.limits.capacity) ∷ []
        → Goes r (turned r r.boards fs) (Follow who b from) (accepted from game)
    goes fs new limits h st =
        let (n, at, same) = known limits h st in
        let joins : joining b (place_in from game) game.log r.limits.capacity ≡ one =
        ap (λ (g : GameRecord). joining b (place_in from g) g.log r.limits.capacity) same
        ∙ ap (λ (l : LimitNumbers). joining b (place_of h b from) (log h b) l.capacity) st.given in
        subst (λ (x : List (ℕ × HeldFollower)). HeldStands limits (turned r r.boards x)
        ((Follow who b from, accepted from game) ∷ h))
        (sym (new ∙ ap (λ (f : HeldFollower). r.followers ++ (who, f) ∷ []) joins)) (record {
          given = st.given;
          lawful = (inl (sym (asked_fine limits h st)), st.lawful);
          boards = st.boards;
          followers = λ q. lookup-push (nat_eq q) r.followers who one
              ∙ ap (λ o. first_some o (cond (nat_eq q who) (Some one) None)) (st.followers q)
              ∙ ap (λ m. first_some (option_map (held_follower_of limits h q) (board_of h q)) (cond m (Some one) None))
              (nat_eq_equiv.symm q who)
              ∙ each q (board_of h q) (nat_eq who q) (λ e. ap (board_of h) (sym (eqb-true who q e)) ∙ nowhere limits h st)
              ∙ ap (λ m. option_map (follower_when limits h (place_of h b from) (nat_eq who q) q)
              (first_some (board_of h q) (cond m (Some b) None))) (nat_eq_equiv.symm who q)
              ∙ ap (option_map (follower_when limits h (place_of h b from) (nat_eq who q) q))
              (sym (lookup-push (nat_eq q) (following h) who b));
          board_count = st.board_count;
          followed = shown-push (λ (f : HeldFollower). f.board) r.followers who one
              ∙ ap (λ all. all ++ (who, b) ∷ []) st.followed;
        })
      where
        one : HeldFollower
        one = joining b (place_of h b from) (log h b) limits.capacity

        joins_there : (n : ℕ) (l : List Triple) → drop (n + 0) (take (length l) l) ≡ drop n l
        joins_there n l = rw (add-zero, take-length l) refl

        each : (q : ℕ) (o : Option (List ℕ)) (mine : Bool) → (mine ≡ true → o ≡ None)
            → first_some (option_map (held_follower_of limits h q) o) (cond mine (Some one) None)
            ≡ option_map (follower_when limits h (place_of h b from) mine q) (first_some o (cond mine (Some b) None))
        each q (Some to) false same = refl
        each q None false same = refl
        each q None true same =
            ap (λ items. Some (record one { queue = items })) (sym (joins_there (place_of h b from) (log h b)))
        each q (Some to) true same = let e = same refl in cc

    pub follow_goes : (fs : List (ℕ × HeldFollower)) (place : ℕ) (position : Parts) → place ≡ place_in from game
        → Some position ≡ position_at game.start game.log place
        → fs ≡ r.followers ++ (who, joining b place game.log r.limits.capacity) ∷ []
        → Goes r (turned r r.boards fs) (Follow who b from) (Following place position)
    follow_goes fs place position at stood new =
        subst (λ x. Goes r (turned r r.boards fs) (Follow who b from) x) (sym told)
        (goes fs (new ∙ ap (λ p. r.followers ++ (who, joining b p game.log r.limits.capacity) ∷ []) at))
      where
        only : (x y : Parts) → Some x ≡ Some y → x ≡ y
        only x y e = cc

        there : position ≡ last_position game.start (take (place_in from game) game.log)
        there = only _ _ (stood ∙ ap (position_at game.start game.log) at
            ∙ position_made game.start game.log (place_in from game) low)

        told : Following place position ≡ accepted from game
        told = ap (λ p. Following p position) at ∙ ap (Following (place_in from game)) there
