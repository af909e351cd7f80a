-- What holds for every lawful history.
use Rattle.std.proofs.Common.{◌≡◌, ℕ, ◌+◌, ◌==◌, eqb, nat_eq, ◌≤◌, Bool, true, false, ◌&&◌, cond, List, [], ◌∷◌, ◌++◌, length, length-append, Option, Some, None, unwrap_or, refl, sym, ap, ◌∙◌, arith}
use Rattle.std.specs.Map.{lookup, keys_of, remove_entry}
use Rattle.std.specs.List.{IsDistinct}
use Rattle.std.specs.Cmp.{nat_eq_equiv}
use Rattle.std.proofs.lemmas.Bool.{eqb-true}
use Rattle.std.proofs.lemmas.Bool.Decides.{nat_tests}
use Rattle.std.proofs.lemmas.Map.{lookup-remove_entry}
use Rattle.std.proofs.lemmas.Map.Keys.{IsDistinct-push}
use Rattle.c960_board.specs.Moves.{Triple}
use Rattle.c960_game.specs.declared.ending.Ending.{Ending}
use Rattle.c960_game.specs.declared.outcome.Outcome.{Outcome}
use Rattle.c960_game.specs.Ending.{named_outcome}
use Rattle.c960_game.specs.Limits.{LimitNumbers}
use Rattle.relay_core.specs.declared.step.Step.TheVariants.{Open, Submit, End, Follow, Take, Leave}
use Rattle.relay_core.specs.declared.reply.Reply.{Reply}
use Rattle.relay_core.specs.declared.reply.Reply.TheVariants.{Opened, Played, Ended, Following, Took, Left, Refused}
use Rattle.relay_core.specs.declared.reply.Taken.TheVariants.{Move, Nothing, Over, Cut}
use Rattle.relay_core.specs.Following.{following, board_of, place_of, joined, taken, after_take, next, closing_of, limit, due, stretch}
use Rattle.relay_core.specs.History.{History, is_accepted, opened, start_of, log, named}
use Rattle.relay_core.specs.Name.{same_name}
use Rattle.relay_core.specs.Replies.{IsAllowed, LawfulHistory, taken_of, reply_to_take, over_of}
use Rattle.relay_core.specs.Stretch.{placed}
use Rattle.relay_core.proofs.Facts.{Facts, IsWithin}
use Rattle.relay_core.proofs.lemmas.Grounds.{sure, submit_known, end_known, submit_room, follow_new}
use Rattle.relay_core.proofs.lemmas.Lists.{lookup-push, first_some, first_none, keys-push, absent, distinct-remove}
use Rattle.relay_core.proofs.lemmas.Names.{same_name_is}
use Rattle.relay_core.proofs.lemmas.Stretches.{before_new, empty_here, grown, placed-append, stretch_length}

-- ---- Open.

open_facts : (limits : LimitNumbers) (h : History) (b : List ℕ) (n : ℕ) (r : Reply) → Facts limits h
    → Facts limits ((Open b n, r) ∷ h)
open_facts limits h b n r f = record {
  once = f.once;
  silent = λ q none. f.silent q (before q (is_accepted r) none);
  unnamed = λ q none. f.unnamed q (before q (is_accepted r) none);
  within = λ who to at. let w = f.within who to at in record { reached = w.reached; ends = w.ends; few = w.few; had = w.had };
  short = f.short;
}
  where
    none_first : (o x : Option ℕ) → first_some o x ≡ None → o ≡ None
    none_first None x g = refl
    none_first (Some y) x g = cc

    before : (q : List ℕ) (took : Bool) → lookup (same_name q) (cond took (opened h ++ (b, n) ∷ []) (opened h)) ≡ None
        → start_of h q ≡ None
    before q false g = g
    before q true g =
        none_first (start_of h q) (cond (same_name q b) (Some n) None) (sym (lookup-push (same_name q) (opened h) b n) ∙ g)

-- ---- Submit and End.

-- a step that is accepted only on opened boards is not of a board that is not opened
of_opened : (h : History) (b q : List ℕ) (took : Bool) → (took ≡ true → start_of h b ≡ None → ⊥) → start_of h q ≡ None
    → (took && same_name b q) ≡ false
of_opened h b q false known none = refl
of_opened h b q true known none = by (same_name b q) (same_name_is b q)
  where
    by : (same : Bool) → (same ≡ true → b ≡ q) → same ≡ false
    by false one = refl
    by true one = absurd (known refl (ap (start_of h) (one refl) ∙ none))

within_after_submit : (capacity : ℕ) (h : History) (who : ℕ) (to b : List ℕ) (m : Triple) (r : Reply) → board_of h who ≡ Some b
    → (same_name to b ≡ true → to ≡ b)
    → IsWithin capacity h who b → IsWithin capacity ((Submit to m, r) ∷ h) who b
within_after_submit capacity h who to b m r at same w = record {
  reached = grind (arith, length-append, w.reached, w.ends, at);
  ends = grind (arith, length-append, w.reached, w.ends, at);
  few = grind (arith, nat_tests, length-append, w.reached, w.ends, w.few, at, same);
  had = w.had ∙ ap (placed (joined h who))
      (before_new (is_accepted r && same_name to b) (joined h who) (next h who) (log h b) m (omega (arith, w.reached, w.ends)));
}

submit_facts : (limits : LimitNumbers) (h : History) (b : List ℕ) (m : Triple) (r : Reply) → IsAllowed limits h (Submit b m) r
    → Facts limits h → Facts limits ((Submit b m, r) ∷ h)
submit_facts limits h b m r ok f = record {
  once = f.once;
  silent = λ q none. ap (λ t. cond t (log h q ++ m ∷ []) (log h q))
      (of_opened h b q (is_accepted r) (submit_known limits h b m r ok) none) ∙ f.silent q none;
  unnamed = f.unnamed;
  within = λ who to at. within_after_submit limits.capacity h who b to m r at (same_name_is b to) (f.within who to at);
  short = λ q. bound q (is_accepted r) (same_name b q) (submit_room limits h b m r ok) (same_name_is b q);
}
  where
    more : (n k p : ℕ) → k ≡ n + 1 → eqb n p ≡ false → n ≤ p → k ≤ p
    more n k p e free low = grind (arith, nat_tests)

    bound : (q : List ℕ) (took same : Bool) → (took ≡ true → (length (log h b) == limits.plies) ≡ false) → (same ≡ true → b ≡ q)
        → length (cond (took && same) (log h q ++ m ∷ []) (log h q)) ≤ limits.plies
    bound q false same room one_name = f.short q
    bound q true false room one_name = f.short q
    bound q true true room one_name =
        let free : eqb (length (log h q)) limits.plies ≡ false =
        ap (λ x. eqb (length (log h x)) limits.plies) (sym (one_name refl)) ∙ room refl in
        more (length (log h q)) (length (log h q ++ m ∷ [])) limits.plies (length-append (log h q) (m ∷ [])) free (f.short q)

end_facts : (limits : LimitNumbers) (h : History) (b : List ℕ) (e : Ending) (r : Reply) → IsAllowed limits h (End b e) r
    → Facts limits h → Facts limits ((End b e, r) ∷ h)
end_facts limits h b e r ok f = record {
  once = f.once;
  silent = f.silent;
  unnamed = λ q none. ap (λ t. cond t (Some (named_outcome e)) (named h q))
      (of_opened h b q (is_accepted r) (end_known limits h b e r ok) none) ∙ f.unnamed q none;
  within = λ who to at. let w = f.within who to at in record { reached = w.reached; ends = w.ends; few = w.few; had = w.had };
  short = f.short;
}

-- ---- Follow.

-- a spectator that joins at this place follows nothing, and the place is one of the log, no further back than a queue holds
abbrev IsNew : LimitNumbers → History → ℕ → List ℕ → ℕ → Bool → Type 0
IsNew limits h who b place took = took ≡ true
    → (board_of h who ≡ None) × (place ≤ length (log h b)) × (length (log h b) ≤ place + limits.capacity)

follow_facts : (limits : LimitNumbers) (h : History) (who : ℕ) (b : List ℕ) (from : Option ℕ) (r : Reply)
    → IsAllowed limits h (Follow who b from) r → Facts limits h → Facts limits ((Follow who b from, r) ∷ h)
follow_facts limits h who b from r ok f = record {
  once = keeps (is_accepted r) (follow_new limits h who b from r ok);
  silent = f.silent;
  unnamed = f.unnamed;
  within = λ q to at.
      let w = by q to (is_accepted r) (nat_eq who q) (follow_new limits h who b from r ok) (eqb-true who q)
      (nat_eq_equiv.symm q who) at in
      record { reached = w.0; ends = w.1; few = w.2; had = w.3 };
  short = f.short;
}
  where
    keeps : (took : Bool) → IsNew limits h who b (place_of h b from) took
        → IsDistinct nat_eq (keys_of (cond took (following h ++ (who, b) ∷ []) (following h)))
    keeps false new = f.once
    keeps true new =
        rw (keys-push (following h) who b) (IsDistinct-push nat_eq_equiv (keys_of (following h)) who f.once
        (absent (nat_eq who) (following h) (new refl).0))

    only : {X : Type 0} (x y : X) → Some x ≡ Some y → x ≡ y
    only x y e = cc

    by : (q : ℕ) (to : List ℕ) (took mine : Bool) → IsNew limits h who b (place_of h b from) took → (mine ≡ true → who ≡ q)
        → nat_eq q who ≡ mine
        → lookup (nat_eq q) (cond took (following h ++ (who, b) ∷ []) (following h)) ≡ Some to
        → (cond (took && mine) (place_of h b from) (joined h q) + length (cond (took && mine) [] (taken h q)) ≤ unwrap_or
        (cond (took && mine) None (closing_of limits.capacity h q)) (length (log h to)))
        × (unwrap_or (cond (took && mine) None (closing_of limits.capacity h q)) (length (log h to)) ≤ length (log h to))
        × (unwrap_or (cond (took && mine) None (closing_of limits.capacity h q)) (length (log h to)) ≤ cond (took && mine)
        (place_of h b from) (joined h q) + length (cond (took && mine) [] (taken h q)) + limits.capacity)
        × (cond (took && mine) [] (taken h q)
        ≡ placed (cond (took && mine) (place_of h b from) (joined h q))
        (stretch (cond (took && mine) (place_of h b from) (joined h q))
        (cond (took && mine) (place_of h b from) (joined h q) + length (cond (took && mine) [] (taken h q))) (log h to)))
    by q to false mine new same turn at = let w = f.within q to at in (w.reached, w.ends, w.few, w.had)
    by q to true false new same turn at =
        let e = ap (λ m. first_some (board_of h q) (cond m (Some b) None)) (sym turn)
        ∙ sym (lookup-push (nat_eq q) (following h) who b) ∙ at in
        let w = f.within q to (sym (first_none (board_of h q)) ∙ e) in (w.reached, w.ends, w.few, w.had)
    by q to true true new same turn at =
        let (none, low, near) = new refl in
        let e : first_some (board_of h q) (Some b) ≡ Some to =
        ap (λ m. first_some (board_of h q) (cond m (Some b) None)) (sym turn)
        ∙ sym (lookup-push (nat_eq q) (following h) who b) ∙ at in
        let n : board_of h q ≡ None = ap (board_of h) (sym (same refl)) ∙ none in
        let g : b ≡ to = only b to (ap (λ o. first_some o (Some b)) (sym n) ∙ e) in
        let l : length (log h b) ≡ length (log h to) = ap (λ x. length (log h x)) g in
        (omega (arith, low, l), omega arith, omega (arith, near, l), sym (ap (placed (place_of h b from)) (empty_here (place_of h b from) (log h to))))

-- ---- Take.

not_mine : (had : List (ℕ × Triple)) (r : Reply) → after_take false had r ≡ had
not_mine had Opened = refl
not_mine had (Played place outcome) = refl
not_mine had (Ended outcome) = refl
not_mine had (Following place position) = refl
not_mine had (Took (Move place m)) = refl
not_mine had (Took Nothing) = refl
not_mine had (Took (Over outcome)) = refl
not_mine had (Took Cut) = refl
not_mine had (Left account) = refl
not_mine had (Refused refusal) = refl

kept : (had : List (ℕ × Triple)) (r : Reply) → length had ≤ length (after_take true had r)
kept had Opened = omega arith
kept had (Played place outcome) = omega arith
kept had (Ended outcome) = omega arith
kept had (Following place position) = omega arith
kept had (Took (Move place m)) = omega (arith, length-append had ((place, m) ∷ []))
kept had (Took Nothing) = omega arith
kept had (Took (Over outcome)) = omega arith
kept had (Took Cut) = omega arith
kept had (Left account) = omega arith
kept had (Refused refusal) = omega arith

counted : (had : List (ℕ × Triple)) (place : ℕ) (over : Option Outcome) (cut : Option ℕ) (items : List Triple)
    → length (after_take true had (Took (taken_of place over cut items))) ≤ length had + length items
counted had place over cut (m ∷ rest) = omega (arith, length-append had ((place, m) ∷ []))
counted had place over (Some closing) [] = omega arith
counted had place (Some outcome) None [] = omega arith
counted had place None None [] = omega arith

-- what was taken remains the log up to the next place
taken_more : (j k : ℕ) (l : List Triple) (had : List (ℕ × Triple)) (over : Option Outcome) (cut : Option ℕ) (items : List Triple)
    → stretch (j + length had) k l ≡ items → j + length had ≤ length l → had ≡ placed j (stretch j (j + length had) l)
    → after_take true had (Took (taken_of (j + length had) over cut items))
    ≡ placed j (stretch j (j + length (after_take true had (Took (taken_of (j + length had) over cut items)))) l)
taken_more j k l had over (Some closing) [] e low w = w
taken_more j k l had (Some outcome) None [] e low w = w
taken_more j k l had None None [] e low w = w
taken_more j k l had over cut (m ∷ rest) e low w =
    let n = j + length had in
    ap (λ t. t ++ (n, m) ∷ []) w
    ∙ ap (λ p. placed j (stretch j n l) ++ (p, m) ∷ []) (sym (stretch_length j n l (omega arith) low))
    ∙ sym (placed-append j (stretch j n l) (m ∷ []))
    ∙ ap (placed j) (sym (grown j n k l rest m (omega arith) low e))
    ∙ ap (λ p. placed j (stretch j p l)) (longer j (length had) (length (had ++ (n, m) ∷ [])) (length-append had ((n, m) ∷ [])))
  where
    longer : (a b c : ℕ) → c ≡ b + 1 → a + b + 1 ≡ a + c
    longer a b c e = omega arith

take_facts : (limits : LimitNumbers) (h : History) (who : ℕ) (r : Reply) → IsAllowed limits h (Take who) r → Facts limits h
    → Facts limits ((Take who, r) ∷ h)
take_facts limits h who r ok f = record {
  once = f.once;
  silent = f.silent;
  unnamed = f.unnamed;
  within = λ q to at. record {
    reached = reached q to at (nat_eq who q) (eqb-true who q);
    ends = (f.within q to at).ends;
    few = few q to at (nat_eq who q);
    had = had q to at (nat_eq who q) (eqb-true who q);
  };
  short = f.short;
}
  where
    answer : (q : ℕ) (to : List ℕ) → board_of h q ≡ Some to → who ≡ q
        → r ≡ Took (taken_of (next h q) (over_of h to (start_of h to)) (closing_of limits.capacity h q) (due limits.capacity h q to))
    answer q to at e =
        sure limits h (Take who) r refl ok ∙ ap (λ x. reply_to_take limits h x (board_of h x)) e
        ∙ ap (reply_to_take limits h q) at

    had : (q : ℕ) (to : List ℕ) → board_of h q ≡ Some to → (mine : Bool) → (mine ≡ true → who ≡ q)
        → after_take mine (taken h q) r ≡ placed (joined h q)
        (stretch (joined h q) (joined h q + length (after_take mine (taken h q) r)) (log h to))
    had q to at false same = rw (not_mine (taken h q) r) ((f.within q to at).had)
    had q to at true same =
        let w = f.within q to at in
        rw (answer q to at (same refl))
        (taken_more (joined h q) (limit limits.capacity h q to) (log h to) (taken h q) (over_of h to (start_of h to))
        (closing_of limits.capacity h q)
        (due limits.capacity h q to) refl (omega (arith, w.reached, w.ends)) w.had)

    few : (q : ℕ) (to : List ℕ) → board_of h q ≡ Some to → (mine : Bool)
        → limit limits.capacity h q to ≤ joined h q + length (after_take mine (taken h q) r) + limits.capacity
    few q to at false = rw (not_mine (taken h q) r) ((f.within q to at).few)
    few q to at true = omega (arith, kept (taken h q) r, (f.within q to at).few)

    reached : (q : ℕ) (to : List ℕ) → board_of h q ≡ Some to → (mine : Bool) → (mine ≡ true → who ≡ q)
        → joined h q + length (after_take mine (taken h q) r) ≤ limit limits.capacity h q to
    reached q to at false same = rw (not_mine (taken h q) r) ((f.within q to at).reached)
    reached q to at true same =
        let most : length (after_take true (taken h q) r) ≤ length (taken h q) + length (due limits.capacity h q to) =
        rw (answer q to at (same refl)) (counted (taken h q) (next h q) (over_of h to (start_of h to))
        (closing_of limits.capacity h q) (due limits.capacity h q to)) in
        let w = f.within q to at in
        let all : next h q + length (due limits.capacity h q to) ≡ limit limits.capacity h q to =
        stretch_length (next h q) (limit limits.capacity h q to) (log h to) w.reached w.ends in
        omega (arith, most, all)

-- ---- Leave.

leave_facts : (limits : LimitNumbers) (h : History) (who : ℕ) (r : Reply) → Facts limits h → Facts limits ((Leave who, r) ∷ h)
leave_facts limits h who r f = record {
  once = keeps (is_accepted r);
  silent = f.silent;
  unnamed = f.unnamed;
  within = λ q to at. let w = f.within q to (stays q to (is_accepted r) at) in
      record { reached = w.reached; ends = w.ends; few = w.few; had = w.had };
  short = f.short;
}
  where
    keeps : (took : Bool) → IsDistinct nat_eq (keys_of (cond took (remove_entry (nat_eq who) (following h)) (following h)))
    keeps false = f.once
    keeps true = distinct-remove nat_eq (nat_eq who) (following h) f.once

    other : (o : Option (List ℕ)) (to : List ℕ) (mine : Bool) → cond mine None o ≡ Some to → o ≡ Some to
    other o to true e = cc
    other o to false e = e

    stays : (q : ℕ) (to : List ℕ) (took : Bool)
        → lookup (nat_eq q) (cond took (remove_entry (nat_eq who) (following h)) (following h)) ≡ Some to → board_of h q ≡ Some to
    stays q to false at = at
    stays q to true at =
        other (board_of h q) to (nat_eq who q) (sym
        (lookup-remove_entry nat_eq_equiv (nat_eq who) (nat_eq_equiv.congr who) q (following h) f.once) ∙ at)

pub facts : (limits : LimitNumbers) (h : History) → LawfulHistory limits h → Facts limits h
unfolding IsDistinct
facts limits [] law =
    record { once = tt; silent = λ b e. refl; unnamed = λ b e. refl; within = λ who b e. cc; short = λ b. omega arith }
facts limits ((Open b n, r) ∷ h) (ok, law) = open_facts limits h b n r (facts limits h law)
facts limits ((Submit b m, r) ∷ h) (ok, law) = submit_facts limits h b m r ok (facts limits h law)
facts limits ((End b e, r) ∷ h) (ok, law) = end_facts limits h b e r ok (facts limits h law)
facts limits ((Follow who b from, r) ∷ h) (ok, law) = follow_facts limits h who b from r ok (facts limits h law)
facts limits ((Take who, r) ∷ h) (ok, law) = take_facts limits h who r ok (facts limits h law)
facts limits ((Leave who, r) ∷ h) (ok, law) = leave_facts limits h who r (facts limits h law)
