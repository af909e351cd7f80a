-- The letters of the pieces, by the bits of their kinds' numbers.
use Rattle.std.proofs.Common.{◌≡◌, ℕ, zero, suc, ◌+◌, ◌*◌, ◌-◌, ◌/◌, ◌%◌, ◌^◌, ◌<◌, List, map, min, max, get_or, Bool, true, false, not, ◌&&◌, ◌||◌, cond, refl, ap, ◌∙◌, zero-add, arith, w64}
use Rattle.std.proofs.lemmas.List.FromFn.{get_or-map-range_with_len}
use Rattle.std.proofs.lemmas.Nat.{and_mask}
use Rattle.std.proofs.lemmas.Nat.Bits.{bit_at_and, bit_at_or, bit_at_not, bit_at-lt}
use Rattle.std.specs.Prelude.{◌==◌, bit_and, bit_or}
use Rattle.std.specs.Int.{bit_at, bit_not}
use Rattle.std.specs.List.{range_with_len}
use Rattle.c960_board.specs.declared.fen.letters.TheConstants.{LETTERS}
use Rattle.c960_board.specs.Fen.Letters.{letter_of}
use Rattle.c960_board.specs.Sets.{is_in, kind_by}
use Rattle.c960_board.proofs.lemmas.SetFacts.{or_bits, and_bits}
use Rattle.c960_board.proofs.lemmas.Tests.{one_in}
use Rattle.c960_board.specs.Inner.PieceLetters.{colour_by, kind_numbered, letter_numbered, digits}
use Rattle.c960_board.proofs.Written.Spread.{digits_sum, digit_at}

-- ---- Tests of bits.

-- of a bit that is turned round
none_one : (x : ℕ) → x < 2 → (1 - x == 1) ≡ not (x == 1)
none_one zero l = refl
none_one (suc zero) l = refl
none_one (suc (suc x)) l = absurd (omega arith)

-- a bit, from its test
one_if : (x : ℕ) → x < 2 → x ≡ cond (x == 1) 1 0
one_if zero l = refl
one_if (suc zero) l = refl
one_if (suc (suc x)) l = absurd (omega arith)

-- a square of an intersection, of a union and of a complement
and_in : (a b u : ℕ) → is_in (bit_and a b) u ≡ (is_in a u && is_in b u)
and_in a b u =
    let x = one_if (bit_at a u) (bit_at-lt a u) in
    let y = one_if (bit_at b u) (bit_at-lt b u) in
    let bits = bit_at_and a b u ∙ ap (λ (m : ℕ). min m (bit_at b u)) x ∙ ap (λ (m : ℕ). min (cond (is_in a u) 1 0) m) y ∙ and_bits (is_in a u) (is_in b u) in
    ap (λ (m : ℕ). m == 1) bits ∙ one_in (is_in a u && is_in b u)

or_in : (a b u : ℕ) → is_in (bit_or a b) u ≡ (is_in a u || is_in b u)
or_in a b u =
    let x = one_if (bit_at a u) (bit_at-lt a u) in
    let y = one_if (bit_at b u) (bit_at-lt b u) in
    let bits = bit_at_or a b u ∙ ap (λ (m : ℕ). max m (bit_at b u)) x ∙ ap (λ (m : ℕ). max (cond (is_in a u) 1 0) m) y ∙ or_bits (is_in a u) (is_in b u) in
    ap (λ (m : ℕ). m == 1) bits ∙ one_in (is_in a u || is_in b u)

not_in : (a u : ℕ) → a < 2 ^ 64 → u < 64 → is_in (bit_not w64 a) u ≡ not (is_in a u)
not_in a u fits l = rw (bit_at_not w64 a u fits l) (none_one (bit_at a u) (bit_at-lt a u))

-- two tests that are replaced together
both : {x y v w : Bool} → x ≡ y → v ≡ w → (x && v) ≡ (y && w)
both e f = rw (e, f) refl

-- ---- The numbers of the kinds.

-- masked by the sets before it, each set gives its bits to the kind that is the first to have the square
number_is : (p n b r q : Bool)
    → kind_numbered (not p && (not n && (not b && not r))) (not p && (not n && (b || r))) (not p && (n || (not b && (r || not q))))
    ≡ kind_by p n b r q
number_is true n b r q = refl
number_is false true b r q = refl
number_is false false true r q = refl
number_is false false false true q = refl
number_is false false false false true = refl
number_is false false false false false = refl

-- the letter of a number, by its bits
letter_is : (w f t o : Bool)
    → letter_numbered (cond o 1 0 + 2 * cond t 1 0 + 4 * cond f 1 0 + 8 * cond w 1 0) ≡ letter_of (colour_by w) (kind_numbered f t o)
letter_is true true true true = refl
letter_is true true true false = refl
letter_is true true false true = refl
letter_is true true false false = refl
letter_is true false true true = refl
letter_is true false true false = refl
letter_is true false false true = refl
letter_is true false false false = refl
letter_is false true true true = refl
letter_is false true true false = refl
letter_is false true false true = refl
letter_is false true false false = refl
letter_is false false true true = refl
letter_is false false true false = refl
letter_is false false false true = refl
letter_is false false false false = refl

-- and by the bits of each square
letter_by : (o t f w : ℕ) → o < 2 → t < 2 → f < 2 → w < 2
    → letter_numbered (o + 2 * t + 4 * f + 8 * w) ≡ letter_of (colour_by (w == 1)) (kind_numbered (f == 1) (t == 1) (o == 1))
letter_by o t f w lo lt lf lw =
    let eo = one_if o lo in
    let et = one_if t lt in
    let ef = one_if f lf in
    let ew = one_if w lw in
    let bits : o + 2 * t + 4 * f + 8 * w ≡ cond (o == 1) 1 0 + 2 * cond (t == 1) 1 0 + 4 * cond (f == 1) 1 0 + 8 * cond (w == 1) 1 0 =
    omega (arith, eo, et, ef, ew) in
    ap letter_numbered bits
    ∙ letter_is (w == 1) (f == 1) (t == 1) (o == 1)

-- the table has the letter of each number
letter_table : LETTERS ≡ map letter_numbered (range_with_len 0 16)
letter_table = refl

pub letter_entry : (n : ℕ) → get_or LETTERS (bit_and n 15) 0 ≡ letter_numbered (n % 16)
letter_entry n =
    let place = bit_and n 15 in
    let is : place ≡ n % 16 = and_mask n 4 in
    ap (λ (l : List ℕ). get_or l place 0) letter_table
    ∙ get_or-map-range_with_len letter_numbered 0 16 place place 0 (omega (arith, is)) (zero-add place)
    ∙ ap letter_numbered is

-- the letters of a rank, by the numbers of four sets
pub letters_in : (ones twos fours white o t f w rank file : ℕ) → file < 8
    → o ≡ digits (λ i. bit_at ones (8 * rank + i)) 8 → t ≡ digits (λ i. bit_at twos (8 * rank + i)) 8
    → f ≡ digits (λ i. bit_at fours (8 * rank + i)) 8 → w ≡ digits (λ i. bit_at white (8 * rank + i)) 8
    → letter_numbered ((o + 2 * t + 4 * f + 8 * w) / 2 ^ (4 * file) % 16)
    ≡ letter_of (colour_by (is_in white (8 * rank + file)))
    (kind_numbered (is_in fours (8 * rank + file)) (is_in twos (8 * rank + file)) (is_in ones (8 * rank + file)))
letters_in ones twos fours white o t f w rank file l eo et ef ew =
    let bit : ℕ → ℕ → ℕ = λ set i. bit_at set (8 * rank + i) in
    let code : ℕ → ℕ = λ i. bit ones i + 2 * bit twos i + 4 * bit fours i + 8 * bit white i in
    let small : (i : ℕ) → code i < 16 =
    λ i. omega (arith, bit_at-lt ones (8 * rank + i), bit_at-lt twos (8 * rank + i), bit_at-lt fours (8 * rank + i), bit_at-lt white (8 * rank + i)) in
    let sum : o + 2 * t + 4 * f + 8 * w ≡ digits code 8 =
    rw (eo, et, ef, ew) (digits_sum (bit ones) (bit twos) (bit fours) (bit white) 8) in
    let u = 8 * rank + file in
    ap (λ (n : ℕ). letter_numbered (n / 2 ^ (4 * file) % 16)) sum
    ∙ ap letter_numbered (digit_at code 8 file small l)
    ∙ letter_by (bit_at ones u) (bit_at twos u) (bit_at fours u) (bit_at white u) (bit_at-lt ones u) (bit_at-lt twos u) (bit_at-lt fours u) (bit_at-lt white u)

-- ---- The sets of the numbers' bits.

-- a square of each set, by the squares of the kinds
ones_in : (p n b r q u : ℕ) → p < 2 ^ 64 → b < 2 ^ 64 → q < 2 ^ 64 → u < 64
    → is_in (bit_and (bit_not w64 p) (bit_or n (bit_and (bit_not w64 b) (bit_or r (bit_not w64 q))))) u
    ≡ (not (is_in p u) && (is_in n u || (not (is_in b u) && (is_in r u || not (is_in q u)))))
ones_in p n b r q u fp fb fq l =
    let last = or_in r (bit_not w64 q) u ∙ ap (λ (x : Bool). is_in r u || x) (not_in q u fq l) in
    let third = and_in (bit_not w64 b) (bit_or r (bit_not w64 q)) u ∙ both (not_in b u fb l) last in
    let second = or_in n (bit_and (bit_not w64 b) (bit_or r (bit_not w64 q))) u ∙ ap (λ (x : Bool). is_in n u || x) third in
    and_in (bit_not w64 p) (bit_or n (bit_and (bit_not w64 b) (bit_or r (bit_not w64 q)))) u ∙ both (not_in p u fp l) second

twos_in : (p n b r u : ℕ) → p < 2 ^ 64 → n < 2 ^ 64 → u < 64
    → is_in (bit_and (bit_not w64 p) (bit_and (bit_not w64 n) (bit_or b r))) u ≡ (not (is_in p u) && (not (is_in n u) && (is_in b u || is_in r u)))
twos_in p n b r u fp fn l =
    let second = and_in (bit_not w64 n) (bit_or b r) u ∙ both (not_in n u fn l) (or_in b r u) in
    and_in (bit_not w64 p) (bit_and (bit_not w64 n) (bit_or b r)) u ∙ both (not_in p u fp l) second

fours_in : (p n b r u : ℕ) → p < 2 ^ 64 → n < 2 ^ 64 → b < 2 ^ 64 → r < 2 ^ 64 → u < 64
    → is_in (bit_and (bit_not w64 p) (bit_and (bit_not w64 n) (bit_and (bit_not w64 b) (bit_not w64 r)))) u
    ≡ (not (is_in p u) && (not (is_in n u) && (not (is_in b u) && not (is_in r u))))
fours_in p n b r u fp fn fb fr l =
    let third = and_in (bit_not w64 b) (bit_not w64 r) u ∙ both (not_in b u fb l) (not_in r u fr l) in
    let second = and_in (bit_not w64 n) (bit_and (bit_not w64 b) (bit_not w64 r)) u ∙ both (not_in n u fn l) third in
    and_in (bit_not w64 p) (bit_and (bit_not w64 n) (bit_and (bit_not w64 b) (bit_not w64 r))) u ∙ both (not_in p u fp l) second

-- the kind by equal bits
same_number : {f t o f' t' o' : Bool} → f ≡ f' → t ≡ t' → o ≡ o' → kind_numbered f t o ≡ kind_numbered f' t' o'
same_number a b c = rw (a, b, c) refl

-- together they number the kind of the square
pub kind_is_numbered : (p n b r q u : ℕ) → p < 2 ^ 64 → n < 2 ^ 64 → b < 2 ^ 64 → r < 2 ^ 64 → q < 2 ^ 64 → u < 64
    → kind_numbered (is_in (bit_and (bit_not w64 p) (bit_and (bit_not w64 n) (bit_and (bit_not w64 b) (bit_not w64 r)))) u)
    (is_in (bit_and (bit_not w64 p) (bit_and (bit_not w64 n) (bit_or b r))) u)
    (is_in (bit_and (bit_not w64 p) (bit_or n (bit_and (bit_not w64 b) (bit_or r (bit_not w64 q))))) u)
    ≡ kind_by (is_in p u) (is_in n u) (is_in b u) (is_in r u) (is_in q u)
kind_is_numbered p n b r q u fp fn fb fr fq l =
    same_number (fours_in p n b r u fp fn fb fr l) (twos_in p n b r u fp fn l) (ones_in p n b r q u fp fb fq l)
    ∙ number_is (is_in p u) (is_in n u) (is_in b u) (is_in r u) (is_in q u)
