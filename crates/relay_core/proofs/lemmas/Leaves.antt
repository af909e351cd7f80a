-- A leave, by what the follower has had.
use Rattle.std.proofs.Common.{◌≡◌, ℕ, nat_eq, Bool, true, false, cond, List, ◌∷◌, length, is_some, unwrap_or, Option, Some, None, option_map, refl, sym, ap, ◌∙◌, inl}
use Rattle.std.specs.Map.{lookup, remove_entry}
use Rattle.c960_game.specs.declared.refusal.Refusal.TheVariants.{NoSuchFollower}
use Rattle.c960_game.specs.Limits.{LimitNumbers}
use Rattle.relay_core.specs.declared.reply.Account.{Account}
use Rattle.relay_core.specs.declared.step.Step.TheVariants.{Leave}
use Rattle.relay_core.specs.declared.reply.Reply.TheVariants.{Left, Refused}
use Rattle.relay_core.specs.BoardAnswers.{length_at}
use Rattle.relay_core.specs.Held.Followers.{account_of}
use Rattle.relay_core.specs.Following.{following, board_of, joined, taken, closing_of}
use Rattle.relay_core.specs.Held.{HeldFollower, Held, turned}
use Rattle.relay_core.specs.History.{History, start_of, log}
use Rattle.relay_core.specs.Held.Stands.{HeldStands, held_follower_of, Goes}
use Rattle.relay_core.specs.Name.{same_name}
use Rattle.relay_core.specs.Replies.{reply_to_leave}
use Rattle.relay_core.specs.Stands.{game_of}
use Rattle.relay_core.proofs.Lawful.{facts}
use Rattle.relay_core.proofs.lemmas.Lists.{shown, lookup-map, remove-map, none_below}
use Rattle.relay_core.proofs.lemmas.Refused.{goes_refused}

module _ (r : Held) (fs : List (ℕ × HeldFollower)) (who : ℕ) where
  left : (limits : LimitNumbers) (h : History) (account : Account) → HeldStands limits r h
      → Left account ≡ reply_to_leave limits h who (board_of h who)
      → ((q : ℕ) → lookup (nat_eq q) fs ≡ cond (nat_eq who q) None (lookup (nat_eq q) r.followers))
      → fs ≡ remove_entry (nat_eq who) r.followers
      → HeldStands limits (turned r r.boards fs) ((Leave who, Left account) ∷ h)
  left limits h account st reply updates removed = record {
    given = st.given;
    lawful = (inl reply, st.lawful);
    boards = st.boards;
    followers = λ q. updates q ∙ ap (cond (nat_eq who q) None) (st.followers q) ∙ each q (nat_eq who q)
        ∙ ap (option_map (held_follower_of limits h q)) (now q);
    board_count = st.board_count;
    followed = gone;
  }
    where
      gone : shown (λ (f : HeldFollower). f.board) fs ≡ remove_entry (nat_eq who) (following h)
      gone = ap (shown (λ (f : HeldFollower). f.board)) removed
          ∙ remove-map (nat_eq who) (λ (f : HeldFollower). f.board) r.followers ∙ ap (remove_entry (nat_eq who)) st.followed

      each : (q : ℕ) (mine : Bool) → cond mine None (option_map (held_follower_of limits h q) (board_of h q))
          ≡ option_map (held_follower_of limits h q) (cond mine None (board_of h q))
      each q true = refl
      each q false = refl

      -- the board of an entry of the relay
      shows : (q : ℕ) (o : Option (List ℕ)) → option_map (λ (f : HeldFollower). f.board)
          (option_map (held_follower_of limits h q) o) ≡ o
      shows q None = refl
      shows q (Some b) = refl

      was : (q : ℕ) (mine : Bool) → option_map (λ (f : HeldFollower). f.board) (cond mine None (lookup (nat_eq q) r.followers))
          ≡ cond mine None (board_of h q)
      was q true = refl
      was q false = ap (option_map (λ (f : HeldFollower). f.board)) (st.followers q) ∙ shows q (board_of h q)

      now : (q : ℕ) → cond (nat_eq who q) None (board_of h q) ≡ lookup (nat_eq q) (remove_entry (nat_eq who) (following h))
      now q = sym (was q (nat_eq who q)) ∙ ap (option_map (λ (f : HeldFollower). f.board)) (sym (updates q))
          ∙ sym (lookup-map (nat_eq q) (λ (f : HeldFollower). f.board) fs) ∙ ap (lookup (nat_eq q)) gone

  length_known : (limits : LimitNumbers) (h : History) (b : List ℕ) → HeldStands limits r h
      → length_at (lookup (same_name b) r.boards) ≡ length (log h b)
  length_known limits h b st = ap length_at (st.boards b) ∙ by (start_of h b) refl
    where
      by : (o : Option ℕ) → start_of h b ≡ o → length_at (option_map (game_of limits h b) o) ≡ length (log h b)
      by None e = sym (ap length ((facts limits h st.lawful).silent b e))
      by (Some n) e = refl

  pub leave_goes : (f : HeldFollower) → Some f ≡ lookup (nat_eq who) r.followers
      → ((q : ℕ) → lookup (nat_eq q) fs ≡ cond (nat_eq who q) None (lookup (nat_eq q) r.followers))
      → fs ≡ remove_entry (nat_eq who) r.followers
      → Goes r (turned r r.boards fs) (Leave who) (Left (account_of (length_at (lookup (same_name f.board) r.boards)) f))
  leave_goes f found updates removed limits h st = by (board_of h who) refl
    where
      account : HeldFollower → Account
      account f = account_of (length_at (lookup (same_name f.board) r.boards)) f

      by : (o : Option (List ℕ)) → board_of h who ≡ o
          → HeldStands limits (turned r r.boards fs) ((Leave who, Left (account f)) ∷ h)
      by None at = let g = found ∙ st.followers who ∙ ap (option_map (held_follower_of limits h who)) at in cc
      by (Some b) at =
          let g = found ∙ st.followers who ∙ ap (option_map (held_follower_of limits h who)) at in
          let e : f ≡ held_follower_of limits h who b = cc in
          left limits h (account f) st
          (ap (λ x. Left (account x)) e
          ∙ ap (λ n. Left (record {
            joined = joined h who;
            taken = length (taken h who);
            limit = unwrap_or (closing_of limits.capacity h who) n;
            cut = is_some (closing_of limits.capacity h who);
          }))
          (length_known limits h b st)
          ∙ sym (ap (reply_to_leave limits h who) at))
          updates removed

  pub leave_nobody : None ≡ lookup (nat_eq who) r.followers → fs ≡ r.followers
      → Goes r (turned r r.boards fs) (Leave who) (Refused NoSuchFollower)
  leave_nobody nobody same = goes_refused r r.boards fs (Leave who) NoSuchFollower refl same
      (λ limits h st. inl (sym (ap (reply_to_leave limits h who)
      (none_below (held_follower_of limits h who) (board_of h who) (sym (nobody ∙ st.followers who))))))
