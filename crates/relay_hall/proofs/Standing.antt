-- What each key has when the presence of one key changes, or one key comes or goes.
use Rattle.std.proofs.Common.{◌≡◌, ◌<◌, ◌≤◌, ◌+◌, ℕ, suc, Bool, true, false, cond, ◌↔◌, is_some, is_none, List, [], ◌∷◌, ◌++◌, Option, None, Some, IfSome, length, take, drop, get_or, set, refl, sym, ap, subst, ◌∙◌, true≢false, arith}
use Rattle.std.specs.List.{remove, slice_get}
use Rattle.std.specs.Cmp.Lexicographic.{same_text}
use Rattle.std.proofs.lemmas.Cmp.{nat_list_eq_equiv}
use Rattle.std.proofs.lemmas.Bool.{and_from, and_parts}
use Rattle.std.proofs.lemmas.List.{get_or_default, set_split, set-get_or, take_all, take_more}
use Rattle.std.proofs.lemmas.Option.{slice_get-get_or}
use Rattle.relay_hall.specs.declared.holders.Departure.TheVariants.{Last, OneOfMore, Waits as WaitsOn}
use Rattle.relay_hall.specs.declared.holders.Holder.{Holder}
use Rattle.relay_hall.specs.declared.presence.Presence.{Presence}
use Rattle.relay_hall.specs.declared.presence.Presence.TheVariants.{Here, Waits}
use Rattle.relay_hall.specs.Holding.{IsDue}
use Rattle.relay_hall.specs.Holders.{HasRunOut, NoneHasRunOut, OthersStay, departure, is_waiting, presence_of, stand_once}
use Rattle.relay_hall.specs.Keys.{same_key}

-- ---- Keys.

is_same : (a b : List ℕ) → same_key a b ≡ true → a ≡ b
is_same a b alike = same_text a b (sym alike)

with_itself : (a : List ℕ) → same_key a a ≡ true
with_itself a = nat_list_eq_equiv.refl a

either_way : (a b : List ℕ) → same_key a b ≡ same_key b a
either_way a b = nat_list_eq_equiv.symm a b

-- ---- One list of keys after another.

-- what was found first
abbrev pub first : Option Presence → Option Presence → Option Presence
first None second = second
first (Some presence) second = Some presence

pub presence_of-append : (key : List ℕ) (xs ys : List Holder) → presence_of key (xs ++ ys) ≡ first (presence_of key xs) (presence_of key ys)
presence_of-append key [] ys = refl
presence_of-append key (x ∷ xs) ys = by (same_key key x.key) x.presence _ _ _ (presence_of-append key xs ys)
  where
    by : (t : Bool) (here : Presence) (both front back : Option Presence) → both ≡ first front back → cond t (Some here) both ≡ first (cond t (Some here) front) back
    by true here both front back is = refl
    by false here both front back is = is

none_first : (p q : Option Presence) → first p q ≡ None → (p ≡ None) × (q ≡ None)
none_first None q none = (refl, none)
none_first (Some presence) q none = absurd (true≢false (ap is_some none))

none_here : (t : Bool) (here : Presence) (q : Option Presence) → cond t (Some here) q ≡ None → (t ≡ false) × (q ≡ None)
none_here true here q none = absurd (true≢false (ap is_some none))
none_here false here q none = (refl, none)

none_is : (p : Option Presence) → is_none p ≡ true → p ≡ None
none_is None none = refl
none_is (Some presence) none = absurd (true≢false (sym none))

-- another key is skipped
passed : (key : List ℕ) (h : Holder) (rest : List Holder) → same_key key h.key ≡ false → presence_of key (h ∷ rest) ≡ presence_of key rest
passed key h rest other = ap (λ t. cond t (Some h.presence) (presence_of key rest)) other

-- and the key itself is not
met : (key : List ℕ) (h : Holder) (rest : List Holder) → same_key key h.key ≡ true → presence_of key (h ∷ rest) ≡ Some h.presence
met key h rest same = ap (λ t. cond t (Some h.presence) (presence_of key rest)) same

-- ---- A holder between others.

pub record Between (before : List Holder) (h : Holder) (after : List Holder) : Type 0 where
  pub not_before : presence_of h.key before ≡ None
  not_after : presence_of h.key after ≡ None
  without : stand_once (before ++ after) ≡ true
  changed : (p : Presence) → stand_once (before ++ record h { presence = p } ∷ after) ≡ true

between : (before : List Holder) (h : Holder) (after : List Holder) → stand_once (before ++ h ∷ after) ≡ true → Between before h after
between [] h after once =
    let parts = and_parts (is_none (presence_of h.key after)) (stand_once after) once in
    record { not_before = refl; not_after = none_is (presence_of h.key after) parts.0; without = parts.1; changed = λ p. once }
between (b ∷ bs) h after once =
    let parts = and_parts (is_none (presence_of b.key (bs ++ h ∷ after))) (stand_once (bs ++ h ∷ after)) once in
    let rest = between bs h after parts.1 in
    let apart = none_first (presence_of b.key bs) (presence_of b.key (h ∷ after)) (sym (presence_of-append b.key bs (h ∷ after)) ∙ none_is _ parts.0) in
    let behind = none_here (same_key b.key h.key) h.presence (presence_of b.key after) apart.1 in
    let gone : presence_of b.key (bs ++ after) ≡ None = presence_of-append b.key bs after ∙ ap (λ p. first p (presence_of b.key after)) apart.0 ∙ behind.1 in
    let still = λ (p : Presence). presence_of-append b.key bs (record h { presence = p } ∷ after)
    ∙ ap (λ q. first q (presence_of b.key (record h { presence = p } ∷ after))) apart.0
    ∙ passed b.key (record h { presence = p }) after behind.0 ∙ behind.1 in
    record {
      not_before = passed h.key b bs (either_way h.key b.key ∙ behind.0) ∙ rest.not_before;
      not_after = rest.not_after;
      without = and_from (is_none (presence_of b.key (bs ++ after))) (stand_once (bs ++ after)) (ap is_none gone) rest.without;
      changed = λ p. and_from (is_none (presence_of b.key (bs ++ record h { presence = p } ∷ after))) (stand_once (bs ++ record h { presence = p } ∷ after)) (ap is_none (still p)) (rest.changed p);
    }

-- ---- The holder at an index.

module _ (rows : List Holder) (at : ℕ) (h : Holder) (within : at < length rows) (is : h ≡ get_or rows at h) (once : stand_once rows ≡ true) where
  split : rows ≡ take at rows ++ h ∷ drop (suc at) rows
  split = sym (set-get_or rows at h) ∙ ap (set rows at) (sym is) ∙ set_split rows at h within

  pub around : Between (take at rows) h (drop (suc at) rows)
  around = between (take at rows) h (drop (suc at) rows) (subst (λ rs. stand_once rs ≡ true) split once)

  set_is : (p : Presence) → set rows at (record h { presence = p }) ≡ take at rows ++ record h { presence = p } ∷ drop (suc at) rows
  set_is p = set_split rows at (record h { presence = p }) within

  -- what its key has
  pub has_at : presence_of h.key rows ≡ Some h.presence
  has_at = ap (presence_of h.key) split ∙ presence_of-append h.key (take at rows) (h ∷ drop (suc at) rows)
      ∙ ap (λ q. first q (presence_of h.key (h ∷ drop (suc at) rows))) around.not_before ∙ met h.key h (drop (suc at) rows) (with_itself h.key)

  -- when it changes
  pub has_changed : (p : Presence) → presence_of h.key (set rows at (record h { presence = p })) ≡ Some p
  has_changed p = ap (presence_of h.key) (set_is p) ∙ presence_of-append h.key (take at rows) (record h { presence = p } ∷ drop (suc at) rows)
      ∙ ap (λ q. first q (presence_of h.key (record h { presence = p } ∷ drop (suc at) rows))) around.not_before
      ∙ met h.key (record h { presence = p }) (drop (suc at) rows) (with_itself h.key)

  pub others_as_changed : (p : Presence) → OthersStay h.key rows (set rows at (record h { presence = p }))
  others_as_changed p other differs =
      ap (presence_of other) (set_is p) ∙ presence_of-append other (take at rows) (record h { presence = p } ∷ drop (suc at) rows)
      ∙ ap (first (presence_of other (take at rows))) (passed other (record h { presence = p }) (drop (suc at) rows) differs ∙ sym (passed other h (drop (suc at) rows) differs))
      ∙ sym (presence_of-append other (take at rows) (h ∷ drop (suc at) rows)) ∙ ap (presence_of other) (sym split)

  pub once_as_changed : (p : Presence) → stand_once (set rows at (record h { presence = p })) ≡ true
  once_as_changed p = ap stand_once (set_is p) ∙ around.changed p

  -- when it goes
  pub has_gone : presence_of h.key (remove rows at) ≡ None
  has_gone = presence_of-append h.key (take at rows) (drop (suc at) rows) ∙ ap (λ q. first q (presence_of h.key (drop (suc at) rows))) around.not_before ∙ around.not_after

  pub others_as_gone : OthersStay h.key rows (remove rows at)
  others_as_gone other differs =
      presence_of-append other (take at rows) (drop (suc at) rows)
      ∙ ap (first (presence_of other (take at rows))) (sym (passed other h (drop (suc at) rows) differs))
      ∙ sym (presence_of-append other (take at rows) (h ∷ drop (suc at) rows)) ∙ ap (presence_of other) (sym split)

  pub once_as_gone : stand_once (remove rows at) ≡ true
  once_as_gone = around.without

-- what was said of the holder at an index
pub holds_at : (rows : List Holder) (at : ℕ) (h : Holder) → at < length rows → h ≡ get_or rows at h → (P : Holder → Type 0) → IfSome (slice_get rows at) P → P h
holds_at rows at h within is P said = subst P (sym is) (subst (λ found. IfSome found P) (slice_get-get_or rows at h within) said)

-- ---- The index where a key was found.

-- the holder there has the key
abbrev HasKey : List ℕ → Holder → Type 0
HasKey key holder = same_key key holder.key ≡ true

module _ (key : List ℕ) (rows : List Holder) (at : ℕ) (h : Holder) (within : at < length rows) (is : h ≡ get_or rows at h) (once : stand_once rows ≡ true)
    (found : IfSome (slice_get rows at) (HasKey key)) where
  its_key : key ≡ h.key
  its_key = is_same key h.key (holds_at rows at h within is (HasKey key) found)

  pub key_has : presence_of key rows ≡ Some h.presence
  key_has = ap (λ k. presence_of k rows) its_key ∙ has_at rows at h within is once

  pub key_changed : (p : Presence) → presence_of key (set rows at (record h { presence = p })) ≡ Some p
  key_changed p = ap (λ k. presence_of k (set rows at (record h { presence = p }))) its_key ∙ has_changed rows at h within is once p

  pub others_of_changed : (p : Presence) → OthersStay key rows (set rows at (record h { presence = p }))
  others_of_changed p = subst (λ k. OthersStay k rows (set rows at (record h { presence = p }))) (sym its_key) (others_as_changed rows at h within is once p)

  pub key_gone : presence_of key (remove rows at) ≡ None
  key_gone = ap (λ k. presence_of k (remove rows at)) its_key ∙ has_gone rows at h within is once

  pub others_of_gone : OthersStay key rows (remove rows at)
  others_of_gone = subst (λ k. OthersStay k rows (remove rows at)) (sym its_key) (others_as_gone rows at h within is once)

-- a key has a presence if it was found
pub has_where_found : (key : List ℕ) (rows : List Holder) (n : ℕ) (place : Option ℕ) → n ≡ length rows → stand_once rows ≡ true
    → IfSome place (λ at. at < n) → IfSome place (λ at. IfSome (slice_get rows at) (HasKey key)) → (place ≡ None → presence_of key rows ≡ None)
    → is_some place ≡ is_some (presence_of key rows)
has_where_found key rows n None long once within found missing = ap is_some (sym (missing refl))
has_where_found key [] n (Some at) long once within found missing = absurd (nowhere n at long within)
  where
    nowhere : (n at : ℕ) → n ≡ 0 → at < n → ⊥
    nowhere n at none within = omega arith
has_where_found key (row ∷ rows) n (Some at) long once within found missing =
    let inside : at < length (row ∷ rows) = subst (λ m. at < m) long within in
    let h = get_or (row ∷ rows) at row in
    sym (ap is_some (key_has key (row ∷ rows) at h inside (get_or_default (row ∷ rows) at row h inside) once found))

-- boards without a time wait
pub waited_is : (r : Bool) (p : Presence) → ((r ≡ true) ↔ IsDue None p) → r ≡ is_waiting (Some p)
waited_is true (Here present) due = absurd (due.0 refl)
waited_is true (Waits until) due = refl
waited_is false (Here present) due = refl
waited_is false (Waits until) due = due.1 tt

-- what is left of a key, depending on what happened to it
pub others_left : (p : Option Presence) → OneOfMore ≡ departure p → (is_waiting p ≡ false) × (is_none p ≡ false)
others_left None told = let no : ⊥ = cc in absurd no
others_left (Some (Here present)) told = (refl, refl)
others_left (Some (Waits until)) told = let no : ⊥ = cc in absurd no

pub left_waiting : (p : Option Presence) → WaitsOn ≡ departure p → (is_waiting p ≡ true) × (is_none p ≡ false)
left_waiting None told = let no : ⊥ = cc in absurd no
left_waiting (Some (Here present)) told = let no : ⊥ = cc in absurd no
left_waiting (Some (Waits until)) told = (refl, refl)

pub nothing_left : (p : Option Presence) → Last ≡ departure p → p ≡ None
nothing_left None told = refl
nothing_left (Some (Here present)) told = let no : ⊥ = cc in absurd no
nothing_left (Some (Waits until)) told = let no : ⊥ = cc in absurd no

-- what holds in any case holds for what is lent
pub whatever : {A P : Type 0} (lent : Option A) → P → IfSome lent (λ _. P)
whatever None p = tt
whatever (Some a) p = p

-- ---- A newcomer.

module _ (rows : List Holder) (h : Holder) (absent : presence_of h.key rows ≡ None) where
  pub has_come : presence_of h.key (rows ++ h ∷ []) ≡ Some h.presence
  has_come = presence_of-append h.key rows (h ∷ []) ∙ ap (λ q. first q (presence_of h.key (h ∷ []))) absent ∙ met h.key h [] (with_itself h.key)

  pub others_as_come : OthersStay h.key rows (rows ++ h ∷ [])
  others_as_come other differs = presence_of-append other rows (h ∷ []) ∙ ap (first (presence_of other rows)) (passed other h [] differs) ∙ or_none (presence_of other rows)
    where
      or_none : (p : Option Presence) → first p None ≡ p
      or_none None = refl
      or_none (Some presence) = refl

pub once_as_come : (rows : List Holder) (h : Holder) → presence_of h.key rows ≡ None → stand_once rows ≡ true → stand_once (rows ++ h ∷ []) ≡ true
once_as_come [] h absent once = refl
once_as_come (b ∷ bs) h absent once =
    let parts = and_parts (is_none (presence_of b.key bs)) (stand_once bs) once in
    let apart = none_here (same_key h.key b.key) b.presence (presence_of h.key bs) absent in
    let alone : presence_of b.key (bs ++ h ∷ []) ≡ None = presence_of-append b.key bs (h ∷ []) ∙ ap (λ q. first q (presence_of b.key (h ∷ []))) (none_is _ parts.0)
    ∙ passed b.key h [] (either_way b.key h.key ∙ apart.0) in
    and_from (is_none (presence_of b.key (bs ++ h ∷ []))) (stand_once (bs ++ h ∷ [])) (ap is_none alone) (once_as_come bs h apart.1 parts.1)

-- ---- A loop that looks at one holder after another.

module _ (rows : List Holder) (at : ℕ) (h : Holder) (within : at < length rows) (is : h ≡ get_or rows at h) where
  pub more_by : take (at + 1) rows ≡ take at rows ++ h ∷ []
  more_by = take_more rows at h within ∙ ap (λ x. take at rows ++ x ∷ []) (sym is)

  -- none of those so far has the key, nor has this
  pub not_yet : (key : List ℕ) → presence_of key (take at rows) ≡ None → same_key key h.key ≡ false → presence_of key (take (at + 1) rows) ≡ None
  not_yet key none differs = ap (presence_of key) more_by ∙ presence_of-append key (take at rows) (h ∷ []) ∙ ap (λ p. first p (presence_of key (h ∷ []))) none ∙ passed key h [] differs

  -- none of those so far is due, nor is this
  pub none_due_yet : (now : Option ℕ) → NoneHasRunOut now (take at rows) → (IsDue now h.presence → ⊥) → NoneHasRunOut now (take (at + 1) rows)
  none_due_yet now none not_due key due =
      neither (presence_of key (take at rows)) (same_key key h.key) (none key)
      (subst (HasRunOut now) (ap (presence_of key) more_by ∙ presence_of-append key (take at rows) (h ∷ [])) due)
    where
      neither : (p : Option Presence) (t : Bool) → (HasRunOut now p → ⊥) → HasRunOut now (first p (cond t (Some h.presence) None)) → ⊥
      neither None true none due = not_due due
      neither None false none due = due
      neither (Some p) t none due = none due

pub none_has : (key : List ℕ) (rows : List Holder) (at : ℕ) → length rows ≤ at → presence_of key (take at rows) ≡ None → presence_of key rows ≡ None
none_has key rows at all none = ap (presence_of key) (sym (take_all at rows all)) ∙ none

pub none_is_due : (now : Option ℕ) (rows : List Holder) (at : ℕ) → length rows ≤ at → NoneHasRunOut now (take at rows) → NoneHasRunOut now rows
none_is_due now rows at all none = subst (NoneHasRunOut now) (take_all at rows all) none
