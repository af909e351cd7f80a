-- The earliest time until which boards wait, as a loop finds it.
use Rattle.std.proofs.Common.{◌≡◌, ◌<◌, ◌≤◌, ◌+◌, ℕ, Bool, true, false, true≢false, cond, nat_le, leb-true, le-leb, List, [], ◌∷◌, ◌++◌, Option, None, Some, IfSome, length, take, get_or, refl, sym, ap, ◌∙◌, subst, arith}
use Rattle.std.proofs.Math.Nat.{lt_of_not-le}
use Rattle.std.proofs.lemmas.List.{take_all}
use Rattle.relay_hall.specs.declared.holders.Holder.{Holder}
use Rattle.relay_hall.specs.declared.presence.Presence.{Presence}
use Rattle.relay_hall.specs.declared.presence.Presence.TheVariants.{Here, Waits}
use Rattle.relay_hall.specs.Holding.{earlier}
use Rattle.relay_hall.specs.Holders.{IsFirst, IsNextDue, presence_of, stand_once}
use Rattle.relay_hall.specs.Keys.{same_key}
use Rattle.relay_hall.proofs.Standing.{around, first, more_by, presence_of-append}

later : (next until : ℕ) → nat_le next until ≡ false → until < next
later next until e = lt_of_not-le (λ le. true≢false (sym (le-leb next until le) ∙ e))

-- none waits until an earlier time than the earlier of two
still_first : (p : Presence) (next : Option ℕ) (q : Option Presence) → IsFirst next q → IsFirst (earlier p next) q
still_first p next None f = tt
still_first (Here n) next (Some q) f = f
still_first (Waits w) next (Some (Here n)) f = by (earlier (Waits w) next)
  where
    by : (o : Option ℕ) → IsFirst o (Some (Here n))
    by None = tt
    by (Some t) = tt
still_first (Waits w) None (Some (Waits u)) f = absurd f
still_first (Waits w) (Some t) (Some (Waits u)) f = by (nat_le t w) refl
  where
    by : (b : Bool) → nat_le t w ≡ b → IsFirst (cond b (Some t) (Some w)) (Some (Waits u))
    by true e = f
    by false e = let less = later t w e in omega (arith, less, f)

own_first : (p : Presence) (next : Option ℕ) → IsFirst (earlier p next) (Some p)
own_first (Here n) None = tt
own_first (Here n) (Some t) = tt
own_first (Waits w) None = omega arith
own_first (Waits w) (Some t) = by (nat_le t w) refl
  where
    by : (b : Bool) → nat_le t w ≡ b → IsFirst (cond b (Some t) (Some w)) (Some (Waits w))
    by true e = leb-true t w e
    by false e = omega arith

module _ (xs : List Holder) (h : Holder) (absent : presence_of h.key xs ≡ None) (with_itself : same_key h.key h.key ≡ true) where
  both : (key : List ℕ) → presence_of key (xs ++ h ∷ []) ≡ first (presence_of key xs) (cond (same_key key h.key) (Some h.presence) None)
  both key = presence_of-append key xs (h ∷ [])

  -- what was found before is found still, and what is new is found, too
  abbrev Has : List Holder → ℕ → Type 0
  Has holders until = (key : List ℕ) × (presence_of key holders ≡ Some (Waits until))

  before : (until : ℕ) → Has xs until → Has (xs ++ h ∷ []) until
  before until (key, found) = (key, both key ∙ ap (λ p. first p (cond (same_key key h.key) (Some h.presence) None)) found)

  new : (until : ℕ) → h.presence ≡ Waits until → Has (xs ++ h ∷ []) until
  new until is = (
    h.key,
    both h.key ∙ ap (λ p. first p (cond (same_key h.key h.key) (Some h.presence) None)) absent
        ∙ ap (λ (t : Bool). cond t (Some h.presence) None) with_itself ∙ ap (λ (p : Presence). Some p) is,
  )

  found_more : (p : Presence) → h.presence ≡ p → (next : Option ℕ) → IfSome next (Has xs) → IfSome (earlier p next) (Has (xs ++ h ∷ []))
  found_more (Here n) is None found = tt
  found_more (Here n) is (Some t) found = before t found
  found_more (Waits w) is None found = new w is
  found_more (Waits w) is (Some t) found = by (nat_le t w)
    where
      by : (b : Bool) → IfSome (cond b (Some t) (Some w)) (Has (xs ++ h ∷ []))
      by true = before t found
      by false = new w is

  next_more : (next : Option ℕ) → IsNextDue xs next → IsNextDue (xs ++ h ∷ []) (earlier h.presence next)
  next_more next was = record {
    some = found_more h.presence refl next was.some;
    first = λ key. subst (IsFirst (earlier h.presence next)) (sym (both key)) (by (presence_of key xs) (same_key key h.key) (was.first key));
  }
    where
      by : (q : Option Presence) (t : Bool) → IsFirst next q → IsFirst (earlier h.presence next) (first q (cond t (Some h.presence) None))
      by (Some q) t f = still_first h.presence next (Some q) f
      by None true f = own_first h.presence next
      by None false f = tt

module _ (rows : List Holder) (at : ℕ) (h : Holder) (within : at < length rows) (is : h ≡ get_or rows at h) (once : stand_once rows ≡ true) (with_itself : same_key h.key h.key ≡ true) where
  pub next_taken : (next : Option ℕ) → IsNextDue (take at rows) next → IsNextDue (take (at + 1) rows) (earlier h.presence next)
  next_taken next was = subst (λ (xs : List Holder). IsNextDue xs (earlier h.presence next)) (sym (more_by rows at h within is))
      (next_more (take at rows) h (around rows at h within is once).not_before with_itself next was)

pub next_of_all : (rows : List Holder) (at : ℕ) → length rows ≤ at → (next : Option ℕ) → IsNextDue (take at rows) next → IsNextDue rows next
next_of_all rows at all next was = subst (λ (xs : List Holder). IsNextDue xs next) (take_all at rows all) was
