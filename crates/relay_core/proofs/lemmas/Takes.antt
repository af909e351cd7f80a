-- A take, by what the follower finds.
use Rattle.std.proofs.Common.{◌≡◌, ℕ, ◌+◌, ◌≤◌, nat_eq, Bool, true, false, cond, List, [], ◌∷◌, ◌++◌, length, length-append, drop, take, unwrap_or, Option, Some, None, option_map, refl, sym, ap, subst, ◌∙◌, arith, inl}
use Rattle.std.specs.Map.{lookup}
use Rattle.std.specs.Option.{IfSome}
use Rattle.std.proofs.lemmas.Bool.{eqb-true}
use Rattle.c960_board.specs.Moves.{Triple}
use Rattle.c960_game.specs.declared.limits.TheConstants.{MOST_PLIES}
use Rattle.c960_game.specs.declared.outcome.Outcome.{Outcome}
use Rattle.c960_game.specs.declared.refusal.Refusal.TheVariants.{NoSuchFollower}
use Rattle.c960_game.specs.Limits.{LimitNumbers}
use Rattle.c960_game.specs.GameRecord.{GameRecord}
use Rattle.relay_core.specs.declared.step.Step.TheVariants.{Take}
use Rattle.relay_core.specs.declared.reply.Reply.TheVariants.{Took, Refused}
use Rattle.relay_core.specs.declared.reply.Taken.{Taken}
use Rattle.relay_core.specs.declared.reply.Taken.TheVariants.{Move, Nothing, Over, Cut}
use Rattle.relay_core.specs.BoardAnswers.{outcome_at}
use Rattle.relay_core.specs.Held.Followers.{HasPlaces, popped, popped_from, boards_of}
use Rattle.relay_core.specs.Following.{board_of, joined, taken, next, closing_of, limit, due}
use Rattle.relay_core.specs.Held.{HeldFollower, Held, turned}
use Rattle.relay_core.specs.History.{History, log, start_of}
use Rattle.relay_core.specs.Held.Stands.{HeldStands, held_follower_of, Goes}
use Rattle.relay_core.specs.Name.{same_name}
use Rattle.relay_core.specs.Replies.{IsAllowed, reply_to_take, taken_of, over_of}
use Rattle.relay_core.specs.Stands.{game_of}
use Rattle.relay_core.proofs.Lawful.{facts}
use Rattle.relay_core.proofs.lemmas.Lists.{none_below}
use Rattle.relay_core.proofs.lemmas.Refused.{goes_refused}
use Rattle.relay_core.proofs.lemmas.Standing.{standing}
use Rattle.relay_core.proofs.lemmas.Stretches.{drop_past, stretch_length}

-- a follower of which it is known how many moves it took, and what waits for it
abbrev with_count : LimitNumbers → History → ℕ → List ℕ → ℕ → List Triple → HeldFollower
with_count limits h who b count items =
    record {
      board = b;
      joined = joined h who;
      taken = count;
      cut = closing_of limits.capacity h who;
      queue = items;
      capacity = limits.capacity;
    }

popped_after : (limits : LimitNumbers) (h : History) (who : ℕ) (b : List ℕ) (m : Triple) (rest : List Triple) (place : ℕ)
    → due limits.capacity h who b ≡ m ∷ rest
    → popped (held_follower_of limits h who b)
    ≡ with_count limits h who b (length (taken h who ++ (place, m) ∷ []))
    (drop (joined h who + length (taken h who ++ (place, m) ∷ [])) (take (limit limits.capacity h who b) (log h b)))
popped_after limits h who b m rest place e =
    rw (length-append (taken h who) ((place, m) ∷ []))
    (ap (λ items. popped_from items (with_count limits h who b (length (taken h who)) items)) e
    ∙ ap (with_count limits h who b (length (taken h who) + 1))
    (sym (ap (λ n. drop n (take (limit limits.capacity h who b) (log h b))) (regroup (joined h who) (length (taken h who)))
    ∙ drop_past (next h who) _ rest m e)))
  where
    regroup : (j t : ℕ) → j + (t + 1) ≡ j + t + 1
    regroup j t = omega arith

-- an answer without a move
IsIdle : Taken → Type 0
IsIdle (Move place m) = ⊥
IsIdle Nothing = Unit {0}
IsIdle (Over outcome) = Unit {0}
IsIdle Cut = Unit {0}

idle_answer : (place : ℕ) (over : Option Outcome) (cut : Option ℕ) → IsIdle (taken_of place over cut [])
unfolding IsIdle
idle_answer place over (Some closing) = tt
idle_answer place (Some outcome) None = tt
idle_answer place None None = tt

module _ (limits : LimitNumbers) (r : Held) (fs : List (ℕ × HeldFollower)) (h : History) (who : ℕ)
    (st : HeldStands limits r h) where
  -- ---- The answer.

  outcome_known : (b : List ℕ) → outcome_at (lookup (same_name b) r.boards) ≡ over_of h b (start_of h b)
  outcome_known b = ap outcome_at (st.boards b) ∙ by (start_of h b)
    where
      by : (o : Option ℕ) → outcome_at (option_map (game_of limits h b) o) ≡ over_of h b o
      by None = refl
      by (Some n) = refl

  -- ---- The followers.

  -- a take that answers no move
  idle : (answer : Taken) → IsIdle answer → IsAllowed limits h (Take who) (Took answer)
      → ((q : ℕ) → lookup (nat_eq q) fs ≡ lookup (nat_eq q) r.followers) → boards_of fs ≡ boards_of r.followers
      → HeldStands limits (turned r r.boards fs) ((Take who, Took answer) ∷ h)
  unfolding IsIdle
  idle (Move place m) moves ok same boards = absurd moves
  idle Nothing none ok same boards =
      standing limits _ _ st.given (ok, st.lawful) st.boards (λ q. same q ∙ st.followers q) st.board_count (boards ∙ st.followed)
  idle (Over outcome) none ok same boards =
      standing limits _ _ st.given (ok, st.lawful) st.boards (λ q. same q ∙ st.followers q) st.board_count (boards ∙ st.followed)
  idle Cut none ok same boards =
      standing limits _ _ st.given (ok, st.lawful) st.boards (λ q. same q ∙ st.followers q) st.board_count (boards ∙ st.followed)

  -- a take that answers a move
  moved : (b : List ℕ) (m : Triple) (rest : List Triple) → board_of h who ≡ Some b → due limits.capacity h who b ≡ m ∷ rest
      → IsAllowed limits h (Take who) (Took (Move (next h who) m))
      → ((q : ℕ) → lookup (nat_eq q) fs ≡ cond (nat_eq who q) (Some (popped (held_follower_of limits h who b)))
      (lookup (nat_eq q) r.followers))
      → boards_of fs ≡ boards_of r.followers
      → HeldStands limits (turned r r.boards fs) ((Take who, Took (Move (next h who) m)) ∷ h)
  moved b m rest at e ok updates boards = record {
    given = st.given;
    lawful = (ok, st.lawful);
    boards = st.boards;
    followers = λ q. updates q ∙ ap (cond (nat_eq who q) (Some (popped (held_follower_of limits h who b)))) (st.followers q)
        ∙ each q (nat_eq who q) (eqb-true who q);
    board_count = st.board_count;
    followed = boards ∙ st.followed;
  }
    where
      each : (q : ℕ) (mine : Bool) → (mine ≡ true → who ≡ q)
          → cond mine (Some (popped (held_follower_of limits h who b))) (option_map (held_follower_of limits h q) (board_of h q))
          ≡ option_map (λ to. with_count limits h q to (length (cond mine (taken h q ++ (next h who, m) ∷ []) (taken h q)))
          (drop (joined h q + length (cond mine (taken h q ++ (next h who, m) ∷ []) (taken h q)))
          (take (limit limits.capacity h q to) (log h to)))) (board_of h q)
      each q false same = refl
      each q true same = let s = same refl in rw (← s, at) (ap Some (popped_after limits h who b m rest (next h who) e))

  abbrev answer_by : List ℕ → List Triple → Taken
  answer_by b items = taken_of (next h who) (over_of h b (start_of h b)) (closing_of limits.capacity h who) items

  met : (b : List ℕ) → board_of h who ≡ Some b
      → ((q : ℕ) → lookup (nat_eq q) fs ≡ cond (nat_eq who q) (Some (popped (held_follower_of limits h who b)))
      (lookup (nat_eq q) r.followers)) → boards_of fs ≡ boards_of r.followers
      → HeldStands limits (turned r r.boards fs) ((Take who, Took (answer_by b (due limits.capacity h who b))) ∷ h)
  met b at updates boards = by (due limits.capacity h who b) refl
    where
      ok : (items : List Triple) → due limits.capacity h who b ≡ items → IsAllowed limits h (Take who) (Took (answer_by b items))
      ok items e = inl (sym (ap (reply_to_take limits h who) at ∙ ap (λ x. Took (answer_by b x)) e))

      by : (items : List Triple) → due limits.capacity h who b ≡ items
          → HeldStands limits (turned r r.boards fs) ((Take who, Took (answer_by b (due limits.capacity h who b))) ∷ h)
      by (m ∷ rest) e =
          subst (λ items. HeldStands limits (turned r r.boards fs) ((Take who, Took (answer_by b items)) ∷ h)) (sym e)
          (moved b m rest at e (ok (m ∷ rest) e) updates boards)
      by [] e =
          subst (λ items. HeldStands limits (turned r r.boards fs) ((Take who, Took (answer_by b items)) ∷ h)) (sym e)
          (idle (answer_by b []) (idle_answer (next h who) (over_of h b (start_of h b)) (closing_of limits.capacity h who)) (ok [] e)
          (λ q. updates q ∙ still q (nat_eq who q) (eqb-true who q)) boards)
        where
          here : lookup (nat_eq who) r.followers ≡ Some (held_follower_of limits h who b)
          here = st.followers who ∙ ap (option_map (held_follower_of limits h who)) at

          still : (q : ℕ) (mine : Bool) → (mine ≡ true → who ≡ q)
              → cond mine (Some (popped (held_follower_of limits h who b))) (lookup (nat_eq q) r.followers)
              ≡ lookup (nat_eq q) r.followers
          still q false same = refl
          still q true same =
              ap (λ items. Some (popped_from items (held_follower_of limits h who b))) e ∙ sym here
              ∙ ap (λ x. lookup (nat_eq x) r.followers) (same refl)

-- what a take answers to the follower
abbrev pub answer_to : List (List ℕ × GameRecord) → HeldFollower → Taken
answer_to boards f = taken_of (f.joined + f.taken) (outcome_at (lookup (same_name f.board) boards)) f.cut f.queue

pub take_goes : (r : Held) (fs : List (ℕ × HeldFollower)) (who : ℕ) (f : HeldFollower) → lookup (nat_eq who) r.followers ≡ Some f
    → ((q : ℕ) → lookup (nat_eq q) fs ≡ cond (nat_eq who q) (option_map popped (lookup (nat_eq who) r.followers))
    (lookup (nat_eq q) r.followers)) → boards_of fs ≡ boards_of r.followers
    → Goes r (turned r r.boards fs) (Take who)
    (Took (taken_of (f.joined + f.taken) (outcome_at (lookup (same_name f.board) r.boards)) f.cut f.queue))
take_goes r fs who f found updates boards limits h st = by (board_of h who) refl
  where
    by : (o : Option (List ℕ)) → board_of h who ≡ o
        → HeldStands limits (turned r r.boards fs) ((Take who, Took (answer_to r.boards f)) ∷ h)
    by None at = let g = sym found ∙ st.followers who ∙ ap (option_map (held_follower_of limits h who)) at in cc
    by (Some b) at =
        let here : lookup (nat_eq who) r.followers ≡ Some (held_follower_of limits h who b) =
        st.followers who ∙ ap (option_map (held_follower_of limits h who)) at in
        let g = sym found ∙ here in
        let e : f ≡ held_follower_of limits h who b = cc in
        subst (λ x. HeldStands limits (turned r r.boards fs) ((Take who, Took x) ∷ h))
        (sym (ap (answer_to r.boards) e
        ∙ ap (λ o. taken_of (next h who) o (closing_of limits.capacity h who) (due limits.capacity h who b))
        (outcome_known limits r fs h who st b)))
        (met limits r fs h who st b at (λ q. updates q
        ∙ ap (λ o. cond (nat_eq who q) (option_map popped o) (lookup (nat_eq q) r.followers)) here) boards)

-- a spectator that follows nothing
no_follower : (limits : LimitNumbers) (r : Held) (h : History) (who : ℕ) → HeldStands limits r h
    → lookup (nat_eq who) r.followers ≡ None → board_of h who ≡ None
no_follower limits r h who st none = none_below (held_follower_of limits h who) (board_of h who) (sym (st.followers who) ∙ none)

pub take_nobody : (r : Held) (fs : List (ℕ × HeldFollower)) (who : ℕ) → lookup (nat_eq who) r.followers ≡ None → fs ≡ r.followers
    → Goes r (turned r r.boards fs) (Take who) (Refused NoSuchFollower)
take_nobody r fs who nobody same = goes_refused r r.boards fs (Take who) NoSuchFollower refl same
    (λ limits h st. inl (sym (ap (reply_to_take limits h who) (no_follower limits r h who st nobody))))

-- ---- Places fit in 16 bits, and a closed follower was closed where its queue ends.

pub has_places : (limits : LimitNumbers) (r : Held) (h : History) (who : ℕ) → HeldStands limits r h → limits.plies ≤ MOST_PLIES
    → IfSome (lookup (nat_eq who) r.followers) HasPlaces
has_places limits r h who st most = subst (λ (o : Option HeldFollower). IfSome o HasPlaces) (sym (st.followers who)) (by (board_of h who) refl)
  where
    by : (o : Option (List ℕ)) → board_of h who ≡ o → IfSome (option_map (held_follower_of limits h who) o) HasPlaces
    by None e = tt
    by (Some b) e =
        let all = facts limits h st.lawful in
        let w = all.within who b e in
        let end = stretch_length (next h who) (limit limits.capacity h who b) (log h b) w.reached w.ends in (
          omega (arith, end, w.ends, all.short b, most),
          λ c cut. sym (end ∙ ap (λ o. unwrap_or o (length (log h b))) cut),
        )
