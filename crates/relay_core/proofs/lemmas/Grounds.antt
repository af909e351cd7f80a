-- What an accepted step says about the history before it.
use Rattle.std.proofs.Common.{◌≡◌, ℕ, ◌+◌, ◌-◌, ◌≤◌, nat_le, nat_lt, Bool, true, false, not, cond, is_some, ◌==◌, List, [], ◌∷◌, ◌++◌, length, take, Option, Some, None, sym, ap, ◌∙◌, true≢false, inl, inr, refl, arith}
use Rattle.std.proofs.lemmas.Bool.{ltb-false}
use Rattle.std.proofs.lemmas.Bool.Decides.{nat_tests}
use Rattle.c960_board.specs.declared.numbering.TheConstants.{STARTS}
use Rattle.c960_board.specs.Moves.{Triple}
use Rattle.c960_game.specs.declared.ending.Ending.{Ending}
use Rattle.c960_game.specs.declared.refusal.Refusal.TheVariants.{BoardExists, BadStart, TooManyBoards, GameOver, LogFull, Illegal, ClaimRefused, FollowerExists, TooManyFollowers, TooFarBack, NotYet}
use Rattle.c960_game.specs.Ending.{named_outcome}
use Rattle.c960_game.specs.Ends.{own_outcome}
use Rattle.c960_game.specs.Tests.Ground.{has_ground}
use Rattle.c960_game.specs.Limits.{LimitNumbers}
use Rattle.c960_game.specs.Tests.Moves.{is_legal_move}
use Rattle.c960_game.specs.Positions.{last_position}
use Rattle.relay_core.specs.declared.step.Step.{Step}
use Rattle.relay_core.specs.declared.step.Step.TheVariants.{Open, Submit, End, Follow}
use Rattle.relay_core.specs.declared.reply.Reply.{Reply}
use Rattle.relay_core.specs.declared.reply.Reply.TheVariants.{Opened, Played, Ended, Following, Refused}
use Rattle.relay_core.specs.Following.{board_of, crowd, place_of}
use Rattle.relay_core.specs.History.{History, is_accepted, opened, start_of, log, end_of}
use Rattle.relay_core.specs.Replies.{IsAllowed, may_grow, reply_to, reply_to_submit, reply_to_end, reply_to_follow}

-- an accepted step was not refused for lack of memory
pub told : (limits : LimitNumbers) (h : History) (s : Step) (r : Reply) → IsAllowed limits h s r → is_accepted r ≡ true
    → r ≡ reply_to limits h s
told limits h s r (inl e) took = e
told limits h s r (inr m) took = absurd (true≢false (sym took ∙ ap is_accepted m.2))

-- nor was a step that takes no memory
pub sure : (limits : LimitNumbers) (h : History) (s : Step) (r : Reply) → may_grow s ≡ false → IsAllowed limits h s r
    → r ≡ reply_to limits h s
sure limits h s r small (inl e) = e
sure limits h s r small (inr m) = absurd (true≢false (sym m.0 ∙ small))

accepts : (limits : LimitNumbers) (h : History) (s : Step) (r : Reply) → IsAllowed limits h s r → is_accepted r ≡ true
    → is_accepted (reply_to limits h s) ≡ true
accepts limits h s r ok took = ap is_accepted (sym (told limits h s r ok took)) ∙ took

-- ---- Open.

pub open_new : (limits : LimitNumbers) (h : History) (b : List ℕ) (n : ℕ) (r : Reply) → IsAllowed limits h (Open b n) r
    → is_accepted r ≡ true
    → (start_of h b ≡ None) × (nat_le STARTS n ≡ false)
open_new limits h b n r ok took =
    by (start_of h b) (nat_le STARTS n) (nat_le limits.boards (length (opened h))) (accepts limits h (Open b n) r ok took)
  where
    by : (o : Option ℕ) (bad full : Bool) → is_accepted
        (cond (is_some o) (Refused BoardExists) (cond bad (Refused BadStart) (cond full (Refused TooManyBoards) Opened))) ≡ true
        → (o ≡ None) × (bad ≡ false)
    by (Some x) bad full g = absurd (true≢false (sym g))
    by None true full g = absurd (true≢false (sym g))
    by None false full g = (refl, refl)

-- ---- Submit.

pub submit_known : (limits : LimitNumbers) (h : History) (b : List ℕ) (m : Triple) (r : Reply) → IsAllowed limits h (Submit b m) r
    → is_accepted r ≡ true → start_of h b ≡ None → ⊥
submit_known limits h b m r ok took none =
    true≢false (sym (accepts limits h (Submit b m) r ok took) ∙ ap (λ o. is_accepted (reply_to_submit limits h b m o)) none)

-- the game goes on, has room, and the move passes the test
pub submit_fine : (limits : LimitNumbers) (h : History) (b : List ℕ) (m : Triple) (r : Reply) (n : ℕ)
    → IsAllowed limits h (Submit b m) r → is_accepted r ≡ true
    → start_of h b ≡ Some n
    → (is_some (end_of h n b) ≡ false) × ((length (log h b) == limits.plies) ≡ false) ×
    (is_legal_move (last_position n (log h b)) m ≡ true)
submit_fine limits h b m r n ok took at =
    by (is_some (end_of h n b)) (length (log h b) == limits.plies) (is_legal_move (last_position n (log h b)) m)
    (ap (λ o. is_accepted (reply_to_submit limits h b m o)) (sym at) ∙ accepts limits h (Submit b m) r ok took)
  where
    by : (over full fine : Bool)
        → is_accepted (cond over (Refused GameOver)
        (cond full (Refused LogFull) (cond (not fine) (Refused Illegal)
        (Played (length (log h b)) (own_outcome n (log h b ++ m ∷ [])))))) ≡ true
        → (over ≡ false) × (full ≡ false) × (fine ≡ true)
    by true full fine g = absurd (true≢false (sym g))
    by false true fine g = absurd (true≢false (sym g))
    by false false false g = absurd (true≢false (sym g))
    by false false true g = (refl, refl, refl)

pub submit_room : (limits : LimitNumbers) (h : History) (b : List ℕ) (m : Triple) (r : Reply) → IsAllowed limits h (Submit b m) r
    → is_accepted r ≡ true → (length (log h b) == limits.plies) ≡ false
submit_room limits h b m r ok took = by (start_of h b) refl
  where
    by : (o : Option ℕ) → start_of h b ≡ o → (length (log h b) == limits.plies) ≡ false
    by None e = absurd (submit_known limits h b m r ok took e)
    by (Some n) e = (submit_fine limits h b m r n ok took e).1

-- ---- End.

pub end_known : (limits : LimitNumbers) (h : History) (b : List ℕ) (e : Ending) (r : Reply) → IsAllowed limits h (End b e) r
    → is_accepted r ≡ true → start_of h b ≡ None → ⊥
end_known limits h b e r ok took none =
    true≢false (sym (accepts limits h (End b e) r ok took) ∙ ap (λ o. is_accepted (reply_to_end h b e o)) none)

pub end_fine : (limits : LimitNumbers) (h : History) (b : List ℕ) (e : Ending) (r : Reply) (n : ℕ)
    → IsAllowed limits h (End b e) r → is_accepted r ≡ true
    → start_of h b ≡ Some n → is_some (end_of h n b) ≡ false
end_fine limits h b e r n ok took at =
    by (is_some (end_of h n b)) (has_ground n (log h b) e)
    (ap (λ o. is_accepted (reply_to_end h b e o)) (sym at) ∙ accepts limits h (End b e) r ok took)
  where
    by : (over fine : Bool) → is_accepted (cond over (Refused GameOver)
        (cond (not fine) (Refused ClaimRefused) (Ended (named_outcome e)))) ≡ true → over ≡ false
    by true fine g = absurd (true≢false (sym g))
    by false fine g = refl

-- ---- Follow.

-- a spectator that joins follows nothing, and joins at a place of the log, no further back than a queue holds
pub follow_new : (limits : LimitNumbers) (h : History) (who : ℕ) (b : List ℕ) (from : Option ℕ) (r : Reply)
    → IsAllowed limits h (Follow who b from) r → is_accepted r ≡ true
    → (board_of h who ≡ None) × (place_of h b from ≤ length (log h b)) ×
    (length (log h b) ≤ place_of h b from + limits.capacity)
follow_new limits h who b from r ok took = by (start_of h b) (accepts limits h (Follow who b from) r ok took)
  where
    free : (o : Option (List ℕ)) (early far full : Bool) (place n : ℕ)
        → is_accepted (cond (is_some o) (Refused FollowerExists)
        (cond early (Refused NotYet) (cond far (Refused TooFarBack)
        (cond full (Refused TooManyFollowers) (Following place (last_position n (take place (log h b)))))))) ≡ true
        → (o ≡ None) × (early ≡ false) × (far ≡ false)
    free (Some x) early far full place n g = absurd (true≢false (sym g))
    free None true far full place n g = absurd (true≢false (sym g))
    free None false true full place n g = absurd (true≢false (sym g))
    free None false false full place n g = (refl, refl, refl)

    by : (o : Option ℕ) → is_accepted (reply_to_follow limits h who b (place_of h b from) o) ≡ true
        → (board_of h who ≡ None) × (place_of h b from ≤ length (log h b)) ×
        (length (log h b) ≤ place_of h b from + limits.capacity)
    by None g = absurd (true≢false (sym g))
    by (Some n) g =
        let (new, early, far) = free (board_of h who) (nat_lt (length (log h b)) (place_of h b from))
        (nat_lt limits.capacity (length (log h b) - place_of h b from)) (nat_le limits.followers (crowd h b)) (place_of h b from) n g in
        let low = ltb-false (length (log h b)) (place_of h b from) early in
        (new, low, near (length (log h b)) (place_of h b from) limits.capacity low far)
      where
        near : (l p c : ℕ) → p ≤ l → nat_lt c (l - p) ≡ false → l ≤ p + c
        near l p c low e = grind (arith, nat_tests)
