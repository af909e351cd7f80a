-- Who is there with a key, read off the events: as many as came and did not go.
use Rattle.std.proofs.Common.{◌≡◌, ◌<◌, ◌≤◌, ◌+◌, ◌-◌, ◌^◌, ℕ, Bool, true, false, true≢false, cond, nat_lt, nat_le, is_some, List, [], ◌∷◌, Option, None, Some, refl, sym, ap, ◌∙◌, subst, arith}
use Rattle.std.proofs.lemmas.Bool.{ltb-false}
use Rattle.std.specs.Cmp.Lexicographic.{same_text}
use Rattle.relay_core.specs.History.{History}
use Rattle.relay_hall.specs.declared.holders.Holder.{Holder}
use Rattle.relay_hall.specs.declared.presence.Presence.{Presence}
use Rattle.relay_hall.specs.declared.presence.Presence.TheVariants.{Here, Waits}
use Rattle.relay_hall.specs.Holders.{has_run_out, presence_of, with_newcomer, without_one}
use Rattle.relay_hall.specs.Holding.{waiting}
use Rattle.relay_hall.specs.Keys.{is_owner, same_key}
use Rattle.relay_hall.specs.Record.{HallRecord}
use Rattle.relay_hall.specs.Runs.{AreCounted, HallEvent, Comes, Says, Goes, Time, Shuts, Ends, HallTold, Replied, Silent, AllSayWhileThere, HallRuns, HallStep, Passes, SaysWhileThere, count_after, counts_after, history_after, present}
use Rattle.relay_hall.specs.Times.{WentBy, waits_until}
use Rattle.relay_hall.proofs.lemmas.Holding.{AllMay, MayHappen}

-- ---- One presence.

came : (p : Option Presence) → is_some (with_newcomer p) ≡ true → present (with_newcomer p) ≡ present p + 1
came None there = refl
came (Some (Waits until)) there = refl
came (Some (Here n)) there = by (nat_lt n (2 ^ 32 - 1)) there
  where
    by : (t : Bool) → is_some (cond t (Some (Here (n + 1))) None) ≡ true → present (cond t (Some (Here (n + 1))) None) ≡ n + 1
    by true z = refl
    by false z = absurd (true≢false (sym z))

nobody_left : (until : Option ℕ) → present (waiting until) ≡ 0
nobody_left None = refl
nobody_left (Some until) = refl

went : (p : Option Presence) (until : Option ℕ) → present (without_one p until) ≡ present p - 1
went None until = refl
went (Some (Waits earlier)) until = nobody_left until
went (Some (Here n)) until = by (nat_lt 1 n) refl
  where
    none : n ≤ 1 → 0 ≡ n - 1
    none few = omega (arith, few)

    by : (t : Bool) → nat_lt 1 n ≡ t → present (cond t (Some (Here (n - 1))) (waiting until)) ≡ n - 1
    by true z = refl
    by false z = nobody_left until ∙ none (ltb-false 1 n z)

stayed : (now : Option ℕ) (p : Option Presence) → present (cond (has_run_out now p) None p) ≡ present p
stayed now None = refl
stayed None (Some (Here n)) = refl
stayed (Some t) (Some (Here n)) = refl
stayed None (Some (Waits until)) = refl
stayed (Some t) (Some (Waits until)) = by (nat_le until t)
  where
    by : (b : Bool) → present (cond b None (Some (Waits until))) ≡ 0
    by true = refl
    by false = refl

here : (p : Option Presence) → 0 < present p → is_some p ≡ true
here (Some p) some = refl
here None some = let no : ⊥ = omega (arith, some) in absurd no

-- ---- One event.

module _ (k l : HallRecord) (count : List ℕ → ℕ) (are : AreCounted count k.keys) where
  as_before : l.keys ≡ k.keys → AreCounted count l.keys
  as_before is q = ap (λ (keys : List Holder). present (presence_of q keys)) is ∙ are q

  -- this key has changed so, and the others have not
  by_key : (one : List ℕ) (f : ℕ → ℕ) → present (presence_of one l.keys) ≡ f (present (presence_of one k.keys)) → ((other : List ℕ) → same_key other one ≡ false → presence_of other l.keys ≡ presence_of other k.keys)
      → (q : List ℕ) → present (presence_of q l.keys) ≡ cond (same_key q one) (f (count q)) (count q)
  by_key one f mine others q = by (same_key q one) refl
    where
      by : (t : Bool) → same_key q one ≡ t → present (presence_of q l.keys) ≡ cond t (f (count q)) (count q)
      by false z = ap present (others q z) ∙ are q
      by true z =
          let is = same_text q one (sym z) in
          ap (λ (x : List ℕ). present (presence_of x l.keys)) is ∙ mine ∙ ap (λ (x : List ℕ). f (present (presence_of x k.keys))) (sym is) ∙ ap f (are q)

  gone_counted : (who : ℕ) (key : Option (List ℕ)) → WentBy k who key l → (q : List ℕ) → present (presence_of q l.keys) ≡ cond (is_owner (Some q) key) (count q - 1) (count q)
  gone_counted who None is q = as_before (ap (λ (x : HallRecord). x.keys) is) q
  gone_counted who (Some one) (mine, others, is) q = by_key one (λ n. n - 1) (ap present mine ∙ went (presence_of one k.keys) (waits_until k one)) others q

  passes_counted : (e : HallEvent) → Passes k e l → AreCounted (count_after count e) l.keys
  passes_counted (Comes one) (there, mine, others, is) = by_key one (λ n. n + 1) (ap present mine ∙ came (presence_of one k.keys) (sym (ap is_some mine) ∙ there)) others
  passes_counted (Says speaker step) s = absurd s
  passes_counted (Goes who) s = gone_counted who.opener who.key s
  passes_counted (Time t) (all, is) = λ q. ap present (all q) ∙ stayed (Some t) (presence_of q k.keys) ∙ are q
  passes_counted Shuts (all, is) = λ q. ap present (all q) ∙ stayed None (presence_of q k.keys) ∙ are q
  passes_counted Ends is = as_before (ap (λ (x : HallRecord). x.keys) is)

  step_counted : (e : HallEvent) (t : HallTold) → HallStep k e t l → AreCounted (count_after count e) l.keys
  step_counted e Silent s = passes_counted e s
  step_counted (Says speaker step) (Replied reply handed) s = as_before (ap (λ (x : HallRecord). x.keys) s.1)
  step_counted (Comes key) (Replied reply handed) s = absurd s
  step_counted (Goes who) (Replied reply handed) s = absurd s
  step_counted (Time t) (Replied reply handed) s = absurd s
  step_counted Shuts (Replied reply handed) s = absurd s
  step_counted Ends (Replied reply handed) s = absurd s

may_happen : (k : HallRecord) (count : List ℕ → ℕ) → AreCounted count k.keys → (e : HallEvent) → SaysWhileThere count e → MayHappen k e
may_happen k count are (Says speaker step) there = λ key has. here (presence_of key k.keys) (subst (λ (n : ℕ). 0 < n) (sym (are key)) (there key has))
may_happen k count are (Comes key) there = tt
may_happen k count are (Goes who) there = tt
may_happen k count are (Time t) there = tt
may_happen k count are Shuts there = tt
may_happen k count are Ends there = tt

-- ---- All events.

pub all_may : (k : HallRecord) (h : History) (count : List ℕ → ℕ) → AreCounted count k.keys → (es : List HallEvent) (ts : List HallTold) (g : History) (l : HallRecord) (r : HallRuns k h es ts g l) → AllSayWhileThere count es → AllMay k h es ts g l r
all_may k h count are [] [] g l r there = tt
all_may k h count are [] (t ∷ ts) g l r there = tt
all_may k h count are (e ∷ es) [] g l r there = tt
all_may k h count are (e ∷ es) (t ∷ ts) g l r there =
    (may_happen k count are e there.0, all_may r.0 (history_after k e t r.0 h) (count_after count e) (step_counted k r.0 count are e t r.1) es ts g l r.2 there.1)

pub all_counted : (k : HallRecord) (h : History) (count : List ℕ → ℕ) → AreCounted count k.keys → (es : List HallEvent) (ts : List HallTold) (g : History) (l : HallRecord) → HallRuns k h es ts g l → AreCounted (counts_after count es) l.keys
all_counted k h count are [] [] g l (g-is, l-is) = as_before k l count are (ap (λ (x : HallRecord). x.keys) l-is)
all_counted k h count are [] (t ∷ ts) g l r = absurd r
all_counted k h count are (e ∷ es) [] g l r = absurd r
all_counted k h count are (e ∷ es) (t ∷ ts) g l (mid, first, r) =
    all_counted mid (history_after k e t mid h) (count_after count e) (step_counted k mid count are e t first) es ts g l r
