-- A count of one: a place that passes, and no other.
use Rattle.std.proofs.Common.{◌≡◌, ℕ, zero, suc, ◌+◌, ◌<◌, Bool, true, false, List, [], ◌∷◌, length, get_or, refl, ap, ◌∙◌, zero-add, arith, cond}
use Rattle.std.specs.Prelude.{count_by}
use Rattle.std.proofs.lemmas.List.Sums.{sum_by-cons}

-- the place k passes, and no other
pub record IsOnly {X : Type 0} (p : X → Bool) (xs : List X) (d : X) (k : ℕ) : Type 0 where
  pub inside : k < length xs
  pub passes : p (get_or xs k d) ≡ true
  pub only : (u : ℕ) → u < length xs → p (get_or xs u d) ≡ true → u ≡ k

-- the count of a longer list, by what the test says of its head
count_cons : {X : Type 0} (p : X → Bool) (x : X) (xs : List X) (b : Bool) → p x ≡ b
    → count_by p (x ∷ xs) ≡ cond b 1 0 + count_by p xs
count_cons p x xs b h =
    sum_by-cons (λ y. cond {A = ℕ} (p y) 1 0) x xs ∙ ap (λ (v : Bool). cond {A = ℕ} v 1 0 + count_by p xs) h

-- a head that passes counts
count_yes : {X : Type 0} (p : X → Bool) (x : X) (xs : List X) → p x ≡ true → count_by p (x ∷ xs) ≡ 1 + count_by p xs
count_yes p x xs h = count_cons p x xs true h

-- a head that fails does not count
count_no : {X : Type 0} (p : X → Bool) (x : X) (xs : List X) → p x ≡ false → count_by p (x ∷ xs) ≡ count_by p xs
count_no p x xs h = count_cons p x xs false h ∙ zero-add (count_by p xs)

-- if the count is 0 no place passes
none_passes : {X : Type 0} (p : X → Bool) (xs : List X) (d : X) → count_by p xs ≡ 0 → (u : ℕ) → u < length xs
    → p (get_or xs u d) ≡ true → ⊥
none_passes p [] d h u l e = omega arith
none_passes p (x ∷ xs) d h zero l e = let f = count_yes p x xs e in omega arith
none_passes p (x ∷ xs) d h (suc u) l e =
    elim (p x) as (λ b. p x ≡ b → ⊥) [
      | true ↦ λ t. let f = count_yes p x xs t in omega arith
      | false ↦ λ t. none_passes p xs d (let f = count_no p x xs t in omega arith) u (omega arith) e
    ] refl

-- a head that passes is the only one
first_only : {X : Type 0} (p : X → Bool) (x : X) (xs : List X) (d : X) → count_by p xs ≡ 0 → (u : ℕ)
    → u < length (x ∷ xs) → p (get_or (x ∷ xs) u d) ≡ true → u ≡ 0
first_only p x xs d h zero l e = refl
first_only p x xs d h (suc u) l e = absurd (none_passes p xs d h u (omega arith) e)

-- after a head that fails the only place is one further
later_only : {X : Type 0} (p : X → Bool) (x : X) (xs : List X) (d : X) (k : ℕ) → p x ≡ false →
    ((u : ℕ) → u < length xs → p (get_or xs u d) ≡ true → u ≡ k) → (u : ℕ) → u < length (x ∷ xs)
    → p (get_or (x ∷ xs) u d) ≡ true → u ≡ suc k
later_only p x xs d k f only zero l e = cc
later_only p x xs d k f only (suc u) l e = let h = only u (omega arith) e in omega arith

-- a count of 1 has its one place
pub only_one : {X : Type 0} (p : X → Bool) (xs : List X) (d : X) → count_by p xs ≡ 1 → (k : ℕ) × IsOnly p xs d k
only_one p [] d h = absurd (omega arith)
only_one p (x ∷ xs) d h =
    elim (p x) as (λ b. p x ≡ b → (k : ℕ) × IsOnly p (x ∷ xs) d k) [
      | true ↦ λ e.
          let n = count_yes p x xs e in
          (0, record { inside = omega arith; passes = e; only = first_only p x xs d (omega arith) })
      | false ↦ λ e.
          let n = count_no p x xs e in
          let r = only_one p xs d (omega arith) in (
            suc r.0,
            record {
              inside = let i = r.1.inside in omega arith;
              passes = r.1.passes;
              only = later_only p x xs d r.0 e r.1.only;
            },
          )
    ] refl

-- if no place passes the count is 0
none_count : {X : Type 0} (p : X → Bool) (xs : List X) (d : X)
    → ((u : ℕ) → u < length xs → p (get_or xs u d) ≡ true → ⊥) → count_by p xs ≡ 0
none_count p [] d h = refl
none_count p (x ∷ xs) d h =
    let rest = none_count p xs d (λ u l e. h (suc u) (omega arith) e) in
    elim (p x) as (λ b. p x ≡ b → count_by p (x ∷ xs) ≡ 0) [
      | true ↦ λ e. absurd (h 0 (omega arith) e)
      | false ↦ λ e. let n = count_no p x xs e in omega arith
    ] refl

-- one place that passes counts 1
pub one_count : {X : Type 0} (p : X → Bool) (xs : List X) (d : X) (k : ℕ) → IsOnly p xs d k → count_by p xs ≡ 1
one_count p [] d k h = absurd (let i = h.inside in omega arith)
one_count p (x ∷ xs) d zero h =
    let n = count_yes p x xs h.passes in
    let rest = none_count p xs d (λ u l t. let z = h.only (suc u) (omega arith) t in omega arith) in
    omega arith
one_count p (x ∷ xs) d (suc k) h =
    let rest = one_count p xs d k (record {
      inside = let i = h.inside in omega arith;
      passes = h.passes;
      only = λ u l t. let z = h.only (suc u) (omega arith) t in omega arith;
    }) in
    elim (p x) as (λ b. p x ≡ b → count_by p (x ∷ xs) ≡ 1) [
      | true ↦ λ e. absurd (let z = h.only 0 (omega arith) e in omega arith)
      | false ↦ λ e. let n = count_no p x xs e in omega arith
    ] refl
