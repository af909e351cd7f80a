-- The lowest member of a set that is a number, and the set without it: `n & (n - 1)`.
use Rattle.std.proofs.Common.{◌≡◌, ◌≢◌, ℕ, zero, suc, ◌-◌, ◌/◌, ◌%◌, ◌^◌, ◌<◌, inl, inr, ap, sym, ◌∙◌, arith, w64}
use Rattle.std.specs.Prelude.{bit_and}
use Rattle.std.specs.Int.{bit_at, trailing_zeros}
use Rattle.std.proofs.lemmas.Bool.{cases_lt}
use Rattle.std.proofs.lemmas.Nat.Bits.{bit_at_above, bit_at_and, bit_at-suc, bit_at-trailing_zeros, bit_at_lowest}
use Rattle.c960_board.specs.Lowest.{IsLowest}

-- a bit that is 1 is one of the number's bits
pub below_width : (n width i : ℕ) → n < 2 ^ width → bit_at n i ≡ 1 → i < width
below_width n width i l e =
    elim (cases_lt i width) [ inl m ↦ m | inr m ↦ absurd (omega (arith, bit_at_above n width i l m, e)) ]

-- the zeros below it are counted
pub lowest_of : (n : ℕ) → 0 < n → n < 2 ^ 64 → IsLowest n (trailing_zeros w64 n)
lowest_of n some fits = let least = bit_at-trailing_zeros w64 n some fits in record { inside = least.1; least = least.2 }

-- ---- Without it.

-- the half of an even number has each bit one place lower
halved : (n k : ℕ) → IsLowest n (suc k) → IsLowest (n / 2) k
halved n k l =
    record {
      inside = sym (bit_at-suc n k) ∙ l.inside;
      least = λ i m. sym (bit_at-suc n i) ∙ l.least (suc i) (omega arith);
    }

-- before an even number stands one of the half before
even_before : (n : ℕ) → n % 2 ≡ 0 → (n - 1) / 2 ≡ n / 2 - 1
even_before n e = omega (arith, e)

-- n - 1 has a 0 where n has its lowest 1
pub before_gone : (n k : ℕ) → IsLowest n k → bit_at (n - 1) k ≡ 0
before_gone n zero l = omega (arith, bit_at_lowest n, bit_at_lowest (n - 1), l.inside)
before_gone n (suc k) l =
    let even : n % 2 ≡ 0 = sym (bit_at_lowest n) ∙ l.least 0 (omega arith) in
    bit_at-suc (n - 1) k ∙ ap (λ x. bit_at x k) (even_before n even) ∙ before_gone (n / 2) k (halved n k l)

-- a 1 at each place below
pub before_below : (n k i : ℕ) → 0 < n → IsLowest n k → i < k → bit_at (n - 1) i ≡ 1
before_below n zero i some l m = absurd (omega arith)
before_below n (suc k) zero some l m =
    let even : n % 2 ≡ 0 = sym (bit_at_lowest n) ∙ l.least 0 (omega arith) in omega (arith, some, even, bit_at_lowest (n - 1))
before_below n (suc k) (suc i) some l m =
    let even : n % 2 ≡ 0 = sym (bit_at_lowest n) ∙ l.least 0 (omega arith) in
    bit_at-suc (n - 1) i ∙ ap (λ x. bit_at x i) (even_before n even)
    ∙ before_below (n / 2) k i (omega (arith, some, even)) (halved n k l) (omega arith)

-- and the bits of n above that place
pub before_above : (n k i : ℕ) → IsLowest n k → k < i → bit_at (n - 1) i ≡ bit_at n i
before_above n k zero l m = absurd (omega arith)
before_above n zero (suc i) l m =
    let odd : n % 2 ≡ 1 = sym (bit_at_lowest n) ∙ l.inside in
    let half : (n - 1) / 2 ≡ n / 2 = omega (arith, odd) in
    bit_at-suc (n - 1) i ∙ ap (λ x. bit_at x i) half ∙ sym (bit_at-suc n i)
before_above n (suc k) (suc i) l m =
    let even : n % 2 ≡ 0 = sym (bit_at_lowest n) ∙ l.least 0 (omega arith) in
    bit_at-suc (n - 1) i ∙ ap (λ x. bit_at x i) (even_before n even) ∙ before_above (n / 2) k i (halved n k l) (omega arith)
    ∙ sym (bit_at-suc n i)

-- the lowest member is taken out
pub lowest_gone : (n k : ℕ) → IsLowest n k → bit_at (bit_and n (n - 1)) k ≡ 0
lowest_gone n k l = omega (arith, bit_at_and n (n - 1) k, before_gone n k l)

-- and the others stay
pub others_stay : (n k i : ℕ) → IsLowest n k → i ≢ k → bit_at (bit_and n (n - 1)) i ≡ bit_at n i
others_stay n k i l ne =
    elim (cases_lt i k) [
      | inl below ↦ omega (arith, bit_at_and n (n - 1) i, l.least i below)
      | inr from ↦ omega (arith, bit_at_and n (n - 1) i, before_above n k i l (omega (arith, ne, from)))
    ]
