-- Sums over all squares, compared square by square.
use Rattle.std.proofs.Common.{◌≡◌, ◌≢◌, ℕ, zero, suc, ◌+◌, ◌<◌, ◌≤◌, ◌⊎◌, inl, inr, true, false, refl, arith, cond}
use Rattle.std.specs.Prelude.{◌==◌}
use Rattle.std.proofs.lemmas.Bool.{eqb-true, eqb-false}
use Rattle.std.proofs.lemmas.List.Sums.{sum_by-cons}
use Rattle.std.specs.List.{sum_by, range_with_len}
use Rattle.c960_rules.specs.Lines.{squares}

-- the number c on the square s, and 0 elsewhere
abbrev pub only_on : ℕ → ℕ → ℕ → ℕ
only_on s c u = cond (u == s) c 0

-- it is c on the square itself, and 0 elsewhere
pub here_or_not : (s c u : ℕ) → ((u ≡ s) × (only_on s c u ≡ c)) ⊎ ((u ≢ s) × (only_on s c u ≡ 0))
here_or_not s c u =
    elim (u == s) as (λ b. (u == s) ≡ b → ((u ≡ s) × (cond b c 0 ≡ c)) ⊎ ((u ≢ s) × (cond b c 0 ≡ 0))) [
      | true ↦ λ e. inl (eqb-true u s e, refl)
      | false ↦ λ e. inr (eqb-false u s e, refl)
    ] refl

-- on the square itself
pub on_it : (s c u : ℕ) → u ≡ s → only_on s c u ≡ c
on_it s c u e = elim (here_or_not s c u) [ inl w ↦ w.1 | inr w ↦ absurd (w.0 e) ]

-- and elsewhere
pub off_it : (s c u : ℕ) → u ≢ s → only_on s c u ≡ 0
off_it s c u off = elim (here_or_not s c u) [ inl w ↦ absurd (off w.0) | inr w ↦ w.1 ]

-- it adds nothing after its square
sum_behind : (s c a n : ℕ) → s < a → sum_by (only_on s c) (range_with_len a n) ≡ 0
sum_behind s c a zero l = refl
sum_behind s c a (suc n) l =
    let head = sum_by-cons (only_on s c) a (range_with_len (a + 1) n) in
    let rest = sum_behind s c (a + 1) n (omega arith) in
    elim (here_or_not s c a) [
      | inl w ↦ absurd (let e = w.0 in omega arith)
      | inr w ↦ let z = w.1 in omega arith
    ]

-- over a range with its square it adds itself
sum_with : (s c a n : ℕ) → a ≤ s → s < a + n → sum_by (only_on s c) (range_with_len a n) ≡ c
sum_with s c a zero l h = absurd (omega arith)
sum_with s c a (suc n) l h =
    let head = sum_by-cons (only_on s c) a (range_with_len (a + 1) n) in
    elim (here_or_not s c a) [
      | inl w ↦
          let e = w.0 in
          let z = w.1 in
          let rest = sum_behind s c (a + 1) n (omega arith) in
          omega arith
      | inr w ↦
          let e = w.0 in
          let z = w.1 in
          let rest = sum_with s c (a + 1) n (omega arith) (omega arith) in
          omega arith
    ]

-- over all squares it adds itself
pub sum_on : (s c : ℕ) → s < 64 → sum_by (only_on s c) squares ≡ c
sum_on s c l = sum_with s c 0 64 (omega arith) (omega arith)

-- the sum of two
sum_both : (f g : ℕ → ℕ) (a n : ℕ)
    → sum_by (λ u. f u + g u) (range_with_len a n) ≡ sum_by f (range_with_len a n) + sum_by g (range_with_len a n)
sum_both f g a zero = refl
sum_both f g a (suc n) =
    let left = sum_by-cons f a (range_with_len (a + 1) n) in
    let right = sum_by-cons g a (range_with_len (a + 1) n) in
    let both = sum_by-cons (λ u. f u + g u) a (range_with_len (a + 1) n) in
    let rest = sum_both f g (a + 1) n in
    omega arith

-- sums compare as their terms do, square by square
sum_below : (f g : ℕ → ℕ) (a n : ℕ) → ((u : ℕ) → a ≤ u → u < a + n → f u ≤ g u)
    → sum_by f (range_with_len a n) ≤ sum_by g (range_with_len a n)
sum_below f g a zero h = omega arith
sum_below f g a (suc n) h =
    let left = sum_by-cons f a (range_with_len (a + 1) n) in
    let right = sum_by-cons g a (range_with_len (a + 1) n) in
    let here : f a ≤ g a = h a (omega arith) (omega arith) in
    let rest = sum_below f g (a + 1) n (λ u l m. h u (omega arith) (omega arith)) in
    omega arith

-- a sum and another, with further numbers added to each
pub sums_with : (f a g b : ℕ → ℕ) → ((u : ℕ) → u < 64 → f u + a u ≤ g u + b u)
    → sum_by f squares + sum_by a squares ≤ sum_by g squares + sum_by b squares
sums_with f a g b h =
    let left = sum_both f a 0 64 in
    let right = sum_both g b 0 64 in
    let all = sum_below (λ u. f u + a u) (λ u. g u + b u) 0 64 (λ u l m. h u (omega arith)) in
    omega arith

-- two squares add what each does
pub sum_on_two : (s t c d : ℕ) → s < 64 → t < 64
    → sum_by (λ u. only_on s c u + only_on t d u) squares ≡ c + d
sum_on_two s t c d l m =
    let both = sum_both (only_on s c) (only_on t d) 0 64 in
    let first = sum_on s c l in
    let second = sum_on t d m in
    omega arith
