-- A test over a range, and what it says of each number and of some number.
use Rattle.std.proofs.Common.{◌≡◌, ℕ, zero, suc, ◌+◌, ◌<◌, ◌≤◌, Bool, true, subst, sym, arith, inl, inr}
use Rattle.std.proofs.lemmas.Bool.{and_parts, or_cases, or_left, or_right}
use Rattle.std.proofs.lemmas.Bool.Decides.{eqb_tells}
use Rattle.std.specs.List.{list_all, list_any, range_with_len}

-- a test that all numbers of a range pass
pub all_range : (p : ℕ → Bool) (a n : ℕ) → list_all p (range_with_len a n) ≡ true
    → (u : ℕ) → a ≤ u → u < a + n → p u ≡ true
all_range p a zero h u l m = absurd (omega arith)
all_range p a (suc n) h u l m =
    let parts = and_parts (p a) (list_all p (range_with_len (a + 1) n)) h in
    elim (eqb_tells a u) [
      | inl w ↦ subst (λ (x : ℕ). p x ≡ true) w.1 parts.0
      | inr w ↦ all_range p (a + 1) n parts.1 u (let ne = w.1 in omega arith) (omega arith)
    ]

-- a test that the first numbers pass
pub each_below : (p : ℕ → Bool) (n : ℕ) → list_all p (range_with_len 0 n) ≡ true → (u : ℕ) → u < n → p u ≡ true
each_below p n h u l = all_range p 0 n h u (omega arith) (omega arith)

-- a number of the range passes the test
pub record Passes (p : ℕ → Bool) (a n : ℕ) : Type 0 where
  pub number : ℕ
  pub from : a ≤ number
  pub below : number < a + n
  pub passes : p number ≡ true

-- a number that passes is found
pub some_range : (p : ℕ → Bool) (a n : ℕ) → Passes p a n → list_any p (range_with_len a n) ≡ true
some_range p a zero h = absurd (omega arith)
some_range p a (suc n) h =
    elim (eqb_tells a h.number) [
      | inl w ↦ or_left (p a) (list_any p (range_with_len (a + 1) n)) (subst (λ (x : ℕ). p x ≡ true) (sym w.1) h.passes)
      | inr w ↦
          let ne = w.1 in
          let later : Passes p (a + 1) n =
          record { number = h.number; from = omega arith; below = omega arith; passes = h.passes } in
          or_right (p a) (list_any p (range_with_len (a + 1) n)) (some_range p (a + 1) n later)
    ]

-- and what is found passes
pub passes_from : (p : ℕ → Bool) (a n : ℕ) → list_any p (range_with_len a n) ≡ true → Passes p a n
passes_from p a zero h = absurd cc
passes_from p a (suc n) h =
    elim (or_cases (p a) (list_any p (range_with_len (a + 1) n)) h) [
      | inl here ↦ record { number = a; from = omega arith; below = omega arith; passes = here }
      | inr there ↦
          let later = passes_from p (a + 1) n there in
          record { number = later.number; from = omega arith; below = omega arith; passes = later.passes }
    ]
