-- A key whose boards wait waits until a time that has not come, and only while somebody can come back.
use Rattle.std.proofs.Common.{◌≡◌, ◌<◌, ◌+◌, ◌-◌, ◌^◌, ℕ, Bool, true, false, true≢false, cond, not, ◌&&◌, nat_lt, nat_le, max, le-leb, ltb-true, is_some, List, [], ◌∷◌, Option, None, Some, refl, sym, ap, ◌∙◌, subst, arith}
use Rattle.std.proofs.Math.Nat.{lt_of_not-le}
use Rattle.std.proofs.lemmas.Option.{none-some, same_Some}
use Rattle.std.specs.Cmp.Lexicographic.{same_text}
use Rattle.std.specs.List.{list_any}
use Rattle.relay_core.specs.History.{History}
use Rattle.relay_hall.specs.declared.holders.Holder.{Holder}
use Rattle.relay_hall.specs.declared.presence.Presence.{Presence}
use Rattle.relay_hall.specs.declared.presence.Presence.TheVariants.{Here, Waits}
use Rattle.relay_hall.specs.Holders.{has_run_out, presence_of, with_newcomer, without_one}
use Rattle.relay_hall.specs.Holding.{waiting}
use Rattle.relay_hall.specs.Keys.{is_owner, same_key}
use Rattle.relay_hall.specs.Record.{HallRecord}
use Rattle.relay_hall.specs.Runs.{HallEvent, Comes, Says, Goes, Time, Shuts, Ends, HallTold, Replied, Silent, HallRuns, HallStep, IsInTime, Passes, history_after}
use Rattle.relay_hall.specs.Times.{WentBy, due_at, waits_until}

-- whoever waits is in time
abbrev pub AllInTime : HallRecord → Type 0
AllInTime k = (key : List ℕ) (until : ℕ) → presence_of key k.keys ≡ Some (Waits until) → (k.time < until) × (k.shut ≡ false)

-- whoever holds a key is at least one
abbrev pub AllHere : List Holder → Type 0
AllHere keys = (key : List ℕ) (n : ℕ) → presence_of key keys ≡ Some (Here n) → 0 < n

-- whoever holds a key or waits is, then
pub in_time : (k : HallRecord) → AllInTime k → AllHere k.keys → (key : List ℕ) → is_some (presence_of key k.keys) ≡ true → IsInTime k.time k.shut (presence_of key k.keys)
in_time k all here key held = by (presence_of key k.keys) refl held
  where
    by : (p : Option Presence) → presence_of key k.keys ≡ p → is_some p ≡ true → IsInTime k.time k.shut p
    by None is h = absurd (true≢false (sym h))
    by (Some (Here n)) is h = here key n is
    by (Some (Waits until)) is h = all key until is

here_or : {A : Type 0} (t : Bool) (n until : ℕ) → cond t (Some (Here n)) None ≡ Some (Waits until) → A
here_or true n until e = let alike : Here n ≡ Waits until = same_Some _ _ e in let no : ⊥ = cc in absurd no
here_or false n until e = absurd (none-some _ e)

-- whoever comes does not wait
newcomer : {A : Type 0} (p : Option Presence) (until : ℕ) → with_newcomer p ≡ Some (Waits until) → A
newcomer None until e = here_or true 1 until e
newcomer (Some (Here n)) until e = here_or (nat_lt n (2 ^ 32 - 1)) (n + 1) until e
newcomer (Some (Waits t)) until e = here_or true 1 until e

-- whoever goes leaves what waits until the time given, or others
waits_as_told : (o : Option ℕ) (until : ℕ) → waiting o ≡ Some (Waits until) → o ≡ Some until
waits_as_told None until e = absurd (none-some _ e)
waits_as_told (Some t) until e = let same : Waits t ≡ Waits until = same_Some _ _ e in cc

goer : (p : Option Presence) (o : Option ℕ) (until : ℕ) → without_one p o ≡ Some (Waits until) → o ≡ Some until
goer None o until e = absurd (none-some _ e)
goer (Some (Waits t)) o until e = waits_as_told o until e
goer (Some (Here n)) o until e = by (nat_lt 1 n) e
  where
    by : (t : Bool) → cond t (Some (Here (n - 1))) (waiting o) ≡ Some (Waits until) → o ≡ Some until
    by true d = here_or true (n - 1) until d
    by false d = waits_as_told o until d

-- a grace that begins ends later
begun : (k : HallRecord) (key : List ℕ) (until : ℕ) → waits_until k key ≡ Some until → (k.time < until) × (k.shut ≡ false)
begun k key until e = by (list_any (λ e. is_owner (Some key) e.1.owner.key) k.floor.boards) k.shut (nat_lt k.time (due_at k)) refl refl e
  where
    by : (owns shut later : Bool) → k.shut ≡ shut → nat_lt k.time (due_at k) ≡ later → cond (owns && (not shut && later)) (Some (due_at k)) None ≡ Some until → (k.time < until) × (k.shut ≡ false)
    by true false true s l d = (subst (λ (n : ℕ). k.time < n) (same_Some _ _ d) (ltb-true k.time (due_at k) l), s)
    by true false false s l d = absurd (none-some _ d)
    by true true later s l d = absurd (none-some _ d)
    by false shut later s l d = absurd (none-some _ d)

-- whoever did not run out waits longer
still_waits : (t : ℕ) (p : Option Presence) (until : ℕ) → cond (has_run_out (Some t) p) None p ≡ Some (Waits until) → (p ≡ Some (Waits until)) × (t < until)
still_waits t None until e = absurd (none-some _ e)
still_waits t (Some (Here n)) until e = here_or true n until e
still_waits t (Some (Waits u)) until e = by (nat_le u t) refl e
  where
    by : (b : Bool) → nat_le u t ≡ b → cond b None (Some (Waits u)) ≡ Some (Waits until) → (Some (Waits u) ≡ Some (Waits until)) × (t < until)
    by true z d = absurd (none-some _ d)
    by false z d =
        let same : Waits u ≡ Waits until = same_Some _ _ d in
        let is : u ≡ until = cc in
        (d, subst (λ (n : ℕ). t < n) is (lt_of_not-le (λ le. true≢false (sym (le-leb u t le) ∙ z))))

none_waits : {A : Type 0} (p : Option Presence) (until : ℕ) → cond (has_run_out None p) None p ≡ Some (Waits until) → A
none_waits None until e = absurd (none-some _ e)
none_waits (Some (Here n)) until e = here_or true n until e
none_waits (Some (Waits u)) until e = absurd (none-some _ e)

module _ (k l : HallRecord) (all : AllInTime k) where
  -- nothing of it has changed
  same_times : l.time ≡ k.time → l.shut ≡ k.shut → (until : ℕ) → (k.time < until) × (k.shut ≡ false) → (l.time < until) × (l.shut ≡ false)
  same_times time shut until (less, may) = (subst (λ (n : ℕ). n < until) (sym time) less, shut ∙ may)

  as_before : l.time ≡ k.time → l.shut ≡ k.shut → l.keys ≡ k.keys → AllInTime l
  as_before time shut keys key until waits = same_times time shut until (all key until (ap (presence_of key) (sym keys) ∙ waits))

  -- this key has changed so, and the others have not
  by_key : (one : List ℕ) → l.time ≡ k.time → l.shut ≡ k.shut → ((other : List ℕ) → same_key other one ≡ false → presence_of other l.keys ≡ presence_of other k.keys)
      → ((until : ℕ) → presence_of one l.keys ≡ Some (Waits until) → (k.time < until) × (k.shut ≡ false)) → AllInTime l
  by_key one time shut others mine key until waits = same_times time shut until (by (same_key key one) refl)
    where
      by : (t : Bool) → same_key key one ≡ t → (k.time < until) × (k.shut ≡ false)
      by true z = mine until (ap (λ (x : List ℕ). presence_of x l.keys) (sym (same_text key one (sym z))) ∙ waits)
      by false z = all key until (sym (others key z) ∙ waits)

  gone_in_time : (who : ℕ) (key : Option (List ℕ)) → WentBy k who key l → AllInTime l
  gone_in_time who None l-is = as_before (ap (λ (x : HallRecord). x.time) l-is) (ap (λ (x : HallRecord). x.shut) l-is) (ap (λ (x : HallRecord). x.keys) l-is)
  gone_in_time who (Some one) (here, others, l-is) = by_key one (ap (λ (x : HallRecord). x.time) l-is) (ap (λ (x : HallRecord). x.shut) l-is) others
      (λ until waits. begun k one until (goer (presence_of one k.keys) (waits_until k one) until (sym here ∙ waits)))

  passes_in_time : (e : HallEvent) → Passes k e l → AllInTime l
  passes_in_time (Comes one) (there, here, others, l-is) = by_key one (ap (λ (x : HallRecord). x.time) l-is) (ap (λ (x : HallRecord). x.shut) l-is) others
      (λ until waits. newcomer (presence_of one k.keys) until (sym here ∙ waits))
  passes_in_time (Says speaker step) s = absurd s
  passes_in_time (Goes who) s = gone_in_time who.opener who.key s
  passes_in_time (Time t) (gone, l-is) = λ key until waits.
      let still = still_waits t (presence_of key k.keys) until (sym (gone key) ∙ waits) in
      let was = all key until still.0 in
      (subst (λ (n : ℕ). n < until) (sym (ap (λ (x : HallRecord). x.time) l-is)) (later was.0 still.1), ap (λ (x : HallRecord). x.shut) l-is ∙ was.1)
    where
      later : {a b n : ℕ} → a < n → b < n → max a b < n
      later p q = omega (arith, p, q)
  passes_in_time Shuts (gone, l-is) = λ key until waits. none_waits (presence_of key k.keys) until (sym (gone key) ∙ waits)
  passes_in_time Ends l-is = as_before (ap (λ (x : HallRecord). x.time) l-is) (ap (λ (x : HallRecord). x.shut) l-is) (ap (λ (x : HallRecord). x.keys) l-is)

  step_in_time : (e : HallEvent) (t : HallTold) → HallStep k e t l → AllInTime l
  step_in_time e Silent s = passes_in_time e s
  step_in_time (Says speaker step) (Replied reply handed) s = as_before (ap (λ (x : HallRecord). x.time) s.1) (ap (λ (x : HallRecord). x.shut) s.1) (ap (λ (x : HallRecord). x.keys) s.1)
  step_in_time (Comes key) (Replied reply handed) s = absurd s
  step_in_time (Goes one) (Replied reply handed) s = absurd s
  step_in_time (Time t) (Replied reply handed) s = absurd s
  step_in_time Shuts (Replied reply handed) s = absurd s
  step_in_time Ends (Replied reply handed) s = absurd s

pub runs_in_time : (k : HallRecord) (h : History) → AllInTime k → (es : List HallEvent) (ts : List HallTold) (g : History) (l : HallRecord) → HallRuns k h es ts g l → AllInTime l
runs_in_time k h all [] [] g l r = subst AllInTime (sym r.1) all
runs_in_time k h all [] (t ∷ ts) g l r = absurd r
runs_in_time k h all (e ∷ es) [] g l r = absurd r
runs_in_time k h all (e ∷ es) (t ∷ ts) g l r = runs_in_time r.0 (history_after k e t r.0 h) (step_in_time k r.0 all e t r.1) es ts g l r.2

-- ---- Whoever holds a key.

one_here : (n : ℕ) → Some (Here 1) ≡ Some (Here n) → 0 < n
one_here n e =
    let same : Here 1 ≡ Here n = same_Some _ _ e in
    let is : 1 ≡ n = cc in
    omega (arith, is)

newcomer_here : (p : Option Presence) (n : ℕ) → with_newcomer p ≡ Some (Here n) → 0 < n
newcomer_here None n e = one_here n e
newcomer_here (Some (Waits t)) n e = one_here n e
newcomer_here (Some (Here m)) n e = by (nat_lt m (2 ^ 32 - 1)) e
  where
    by : (t : Bool) → cond t (Some (Here (m + 1))) None ≡ Some (Here n) → 0 < n
    by true d =
        let same : Here (m + 1) ≡ Here n = same_Some _ _ d in
        let is : m + 1 ≡ n = cc in
        omega (arith, is)
    by false d = absurd (none-some _ d)

waits_alone : {A : Type 0} (o : Option ℕ) (n : ℕ) → waiting o ≡ Some (Here n) → A
waits_alone None n e = absurd (none-some _ e)
waits_alone (Some t) n e = let alike : Waits t ≡ Here n = same_Some _ _ e in let no : ⊥ = cc in absurd no

goer_here : (p : Option Presence) (o : Option ℕ) (n : ℕ) → without_one p o ≡ Some (Here n) → 0 < n
goer_here None o n e = absurd (none-some _ e)
goer_here (Some (Waits t)) o n e = waits_alone o n e
goer_here (Some (Here m)) o n e = by (nat_lt 1 m) refl e
  where
    by : (t : Bool) → nat_lt 1 m ≡ t → cond t (Some (Here (m - 1))) (waiting o) ≡ Some (Here n) → 0 < n
    by true z d =
        let same : Here (m - 1) ≡ Here n = same_Some _ _ d in
        let is : m - 1 ≡ n = cc in
        let more = ltb-true 1 m z in
        omega (arith, is, more)
    by false z d = waits_alone o n d

still_here : (t : Bool) (p : Option Presence) (n : ℕ) → cond t None p ≡ Some (Here n) → p ≡ Some (Here n)
still_here true p n e = absurd (none-some _ e)
still_here false p n e = e

module _ (k l : HallRecord) (here : AllHere k.keys) where
  here_before : l.keys ≡ k.keys → AllHere l.keys
  here_before same = subst AllHere (sym same) here

  here_but : (one : List ℕ) → ((other : List ℕ) → same_key other one ≡ false → presence_of other l.keys ≡ presence_of other k.keys)
      → ((n : ℕ) → presence_of one l.keys ≡ Some (Here n) → 0 < n) → AllHere l.keys
  here_but one others mine key n is = by (same_key key one) refl
    where
      by : (t : Bool) → same_key key one ≡ t → 0 < n
      by true z = mine n (ap (λ (x : List ℕ). presence_of x l.keys) (sym (same_text key one (sym z))) ∙ is)
      by false z = here key n (sym (others key z) ∙ is)

  gone_here : (who : ℕ) (key : Option (List ℕ)) → WentBy k who key l → AllHere l.keys
  gone_here who None l-is = here_before (ap (λ (x : HallRecord). x.keys) l-is)
  gone_here who (Some one) (mine, others, l-is) = here_but one others (λ n is. goer_here (presence_of one k.keys) (waits_until k one) n (sym mine ∙ is))

  passes_here : (e : HallEvent) → Passes k e l → AllHere l.keys
  passes_here (Comes one) (there, mine, others, l-is) = here_but one others (λ n is. newcomer_here (presence_of one k.keys) n (sym mine ∙ is))
  passes_here (Says speaker step) s = absurd s
  passes_here (Goes who) s = gone_here who.opener who.key s
  passes_here (Time t) (gone, l-is) = λ key n is. here key n (still_here (has_run_out (Some t) (presence_of key k.keys)) (presence_of key k.keys) n (sym (gone key) ∙ is))
  passes_here Shuts (gone, l-is) = λ key n is. here key n (still_here (has_run_out None (presence_of key k.keys)) (presence_of key k.keys) n (sym (gone key) ∙ is))
  passes_here Ends l-is = here_before (ap (λ (x : HallRecord). x.keys) l-is)

  step_here : (e : HallEvent) (t : HallTold) → HallStep k e t l → AllHere l.keys
  step_here e Silent s = passes_here e s
  step_here (Says speaker step) (Replied reply handed) s = here_before (ap (λ (x : HallRecord). x.keys) s.1)
  step_here (Comes key) (Replied reply handed) s = absurd s
  step_here (Goes one) (Replied reply handed) s = absurd s
  step_here (Time t) (Replied reply handed) s = absurd s
  step_here Shuts (Replied reply handed) s = absurd s
  step_here Ends (Replied reply handed) s = absurd s

pub runs_here : (k : HallRecord) (h : History) → AllHere k.keys → (es : List HallEvent) (ts : List HallTold) (g : History) (l : HallRecord) → HallRuns k h es ts g l → AllHere l.keys
runs_here k h here [] [] g l r = subst (λ (x : HallRecord). AllHere x.keys) (sym r.1) here
runs_here k h here [] (t ∷ ts) g l r = absurd r
runs_here k h here (e ∷ es) [] g l r = absurd r
runs_here k h here (e ∷ es) (t ∷ ts) g l r = runs_here r.0 (history_after k e t r.0 h) (step_here k r.0 here e t r.1) es ts g l r.2
