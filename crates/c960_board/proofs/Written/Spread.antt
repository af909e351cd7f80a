-- Numbers by their digits to the base 16, and the table of the files that are spread to one digit each.
use Rattle.std.proofs.Common.{◌≡◌, ℕ, zero, suc, ◌+◌, ◌*◌, ◌/◌, ◌%◌, ◌^◌, ◌≤◌, ◌<◌, List, map, get_or, refl, sym, ap, ◌∙◌, zero-add, arith}
use Rattle.std.specs.Prelude.{bit_and}
use Rattle.std.specs.Int.{bit_at}
use Rattle.std.specs.List.{range_with_len}
use Rattle.std.proofs.Math.Nat.{div-div-eq-div-mul}
use Rattle.std.proofs.lemmas.List.FromFn.{get_or-map-range_with_len}
use Rattle.std.proofs.lemmas.Nat.{pow-add, and_mask}
use Rattle.c960_board.specs.declared.fen.spread.TheConstants.{SPREAD}
use Rattle.c960_board.specs.Inner.PieceLetters.{digits}
use Rattle.c960_board.proofs.Written.RankBits.{rank_bits}

-- ---- Digits.

-- of two sequences that are equal so far
digits_same : (a b : ℕ → ℕ) (n : ℕ) → ((i : ℕ) → i < n → a i ≡ b i) → digits a n ≡ digits b n
unfolding digits
digits_same a b zero h = refl
digits_same a b (suc n) h =
    let first = h 0 (omega arith) in
    let rest = digits_same (λ i. a (suc i)) (λ i. b (suc i)) n (λ i l. h (suc i) (omega arith)) in
    omega (arith, first, rest)

-- four numbers are added digit by digit
pub digits_sum : (a b c d : ℕ → ℕ) (n : ℕ)
    → digits a n + 2 * digits b n + 4 * digits c n + 8 * digits d n ≡ digits (λ i. a i + 2 * b i + 4 * c i + 8 * d i) n
unfolding digits
digits_sum a b c d zero = refl
digits_sum a b c d (suc n) =
    let rest = digits_sum (λ i. a (suc i)) (λ i. b (suc i)) (λ i. c (suc i)) (λ i. d (suc i)) n in
    omega (arith, rest)

-- each digit is found again
pub digit_at : (d : ℕ → ℕ) (n f : ℕ) → ((i : ℕ) → d i < 16) → f < n → digits d n / 2 ^ (4 * f) % 16 ≡ d f
unfolding digits
digit_at d zero f small l = absurd (omega arith)
digit_at d (suc n) zero small l = let first = small 0 in omega (arith, first)
digit_at d (suc n) (suc f) small l =
    let rest = digits (λ i. d (suc i)) n in
    let first = small 0 in
    let up : 4 * suc f ≡ 4 + 4 * f = omega arith in
    let down : (d 0 + 16 * rest) / 16 ≡ rest = omega (arith, first) in
    let split : (d 0 + 16 * rest) / 2 ^ (4 * suc f) ≡ rest / 2 ^ (4 * f) =
    ap (λ (m : ℕ). (d 0 + 16 * rest) / 2 ^ m) up
    ∙ ap (λ (m : ℕ). (d 0 + 16 * rest) / m) (pow-add 2 4 (4 * f))
    ∙ sym (div-div-eq-div-mul (d 0 + 16 * rest) (2 ^ 4) (2 ^ (4 * f)))
    ∙ ap (λ (m : ℕ). m / 2 ^ (4 * f)) down in
    ap (λ (m : ℕ). m % 16) split ∙ digit_at (λ i. d (suc i)) n f (λ i. small (suc i)) (omega arith)

-- eight digits that are 0 or 1
pub ones_bound : (d : ℕ → ℕ) → ((i : ℕ) → d i < 2) → digits d 8 ≤ 0x11111111
unfolding digits
ones_bound d small =
    let a = small 0 in let b = small 1 in let c = small 2 in let e = small 3 in
    let f = small 4 in let g = small 5 in let h = small 6 in let i = small 7 in
    omega (arith, a, b, c, e, f, g, h, i)

-- ---- The table, by computation over all sets of files.

spread_table : SPREAD ≡ map (λ x. digits (bit_at x) 8) (range_with_len 0 256)
unfolding digits
spread_table = refl

-- its entry for the squares of a rank
pub spread_entry : (set rank : ℕ)
    → get_or SPREAD (bit_and (set / 2 ^ (8 * rank)) 255) 0 ≡ digits (λ file. bit_at set (8 * rank + file)) 8
spread_entry set rank =
    let files = bit_and (set / 2 ^ (8 * rank)) 255 in
    let below : files < 256 = omega (arith, and_mask (set / 2 ^ (8 * rank)) 8) in
    ap (λ (l : List ℕ). get_or l files 0) spread_table
    ∙ get_or-map-range_with_len (λ x. digits (bit_at x) 8) 0 256 files files 0 below (zero-add files)
    ∙ digits_same (bit_at files) (λ file. bit_at set (8 * rank + file)) 8 (λ f l. rank_bits set rank f l)
