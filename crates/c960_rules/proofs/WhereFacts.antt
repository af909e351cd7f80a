-- Sets of the squares that a test accepts.
use Rattle.std.proofs.Common.{◌≡◌, ℕ, ◌-◌, ◌*◌, ◌%◌, ◌^◌, ◌<◌, max, Bool, true, false, not, ◌&&◌, ◌||◌, cond, List, None, length, map, refl, ap, sym, ◌∙◌, inl, inr, arith, w64, zero-add}
use Rattle.std.proofs.lemmas.Bool.{cases_eq, eqb-true, eq-eqb, ne_eqb}
use Rattle.std.proofs.lemmas.List.{length-map, get_or-map}
use Rattle.std.proofs.lemmas.List.FromFn.{get_or-map-range_with_len}
use Rattle.std.proofs.lemmas.Nat.{and_le_l, or_lt, one_shl, pow_below}
use Rattle.std.proofs.lemmas.Nat.Bits.{bit_at_and, bit_at_or, bit_at_not, bit_at-lt, bit_at-zero, bit_at-pow_same, bit_at-pow_other, same_from_bits_below}
use Rattle.std.proofs.lemmas.Simd.{bit_mask_l, mask_l-lt}
use Rattle.std.specs.Prelude.{◌==◌, bit_and, bit_or}
use Rattle.std.specs.Int.{bit_at, bit_not}
use Rattle.c960_board.specs.declared.parts.Parts.{Parts}
use Rattle.c960_board.specs.Pieces.{Cell}
use Rattle.c960_board.specs.Position.{IsPosition}
use Rattle.c960_board.specs.Cells.{cell_at}
use Rattle.c960_board.specs.Sets.{set_of, is_in, is_occupied}
use Rattle.c960_board.proofs.lemmas.SetFacts.{or_bits, and_bits}
use Rattle.c960_board.proofs.lemmas.Tests.{one_in, zero_false}
use Rattle.c960_rules.specs.Lines.{squares}
use Rattle.c960_rules.specs.Inner.Wheres.{where_set, IsWithout}

-- a bit
pub where_bit : (test : ℕ → Bool) (i : ℕ) → i < 64 → bit_at (where_set test) i ≡ cond (test i) 1 0
unfolding where_set
where_bit test i h =
    bit_mask_l (map test squares) i
    ∙ ap (λ (b : Bool). cond b 1 0) (get_or-map-range_with_len test 0 64 i i false h (zero-add i))

-- it fits a word
pub where_fits : (test : ℕ → Bool) → where_set test < 2 ^ 64
unfolding where_set
where_fits test = mask_l-lt (map test squares)

-- a word by its bits
pub where_is : (test : ℕ → Bool) (a : ℕ) → a < 2 ^ 64 → ((i : ℕ) → i < 64 → bit_at a i ≡ cond (test i) 1 0) → a ≡ where_set test
where_is test a fits h =
    same_from_bits_below 64 a (where_set test) fits (where_fits test) (λ i l. h i l ∙ sym (where_bit test i l))

-- tests that agree
pub where_agree : (t u : ℕ → Bool) → ((i : ℕ) → i < 64 → t i ≡ u i) → where_set t ≡ where_set u
where_agree t u h =
    where_is u (where_set t) (where_fits t) (λ i l. where_bit t i l ∙ ap (λ (b : Bool). cond b 1 0) (h i l))

not_bits : (a : Bool) → 1 - cond a 1 0 ≡ cond (not a) 1 0
not_bits true = refl
not_bits false = refl

-- a bit of a set that is known
pub bit_of : (t : ℕ → Bool) (a i : ℕ) → a ≡ where_set t → i < 64 → bit_at a i ≡ cond (t i) 1 0
bit_of t a i e l = ap (λ (x : ℕ). bit_at x i) e ∙ where_bit t i l

pub fits_of : (t : ℕ → Bool) (a : ℕ) → a ≡ where_set t → a < 2 ^ 64
fits_of t a e = rw e (where_fits t)

-- the union
pub where_or : (t u : ℕ → Bool) (a b : ℕ) → a ≡ where_set t → b ≡ where_set u → bit_or a b ≡ where_set (λ s. t s || u s)
where_or t u a b ea eb =
    where_is (λ s. t s || u s) (bit_or a b) (or_lt 64 a b (fits_of t a ea) (fits_of u b eb))
    (λ i l.
    let p = bit_of t a i ea l in
    let q = bit_of u b i eb l in
    bit_at_or a b i ∙ rw (p, q) (or_bits (t i) (u i)))

-- the intersection
pub where_and : (t u : ℕ → Bool) (a b : ℕ) → a ≡ where_set t → b ≡ where_set u → bit_and a b ≡ where_set (λ s. t s && u s)
where_and t u a b ea eb =
    where_is (λ s. t s && u s) (bit_and a b)
    (let below = and_le_l a b in let fits = fits_of t a ea in omega arith)
    (λ i l.
    let p = bit_of t a i ea l in
    let q = bit_of u b i eb l in
    bit_at_and a b i ∙ rw (p, q) (and_bits (t i) (u i)))

-- the complement
pub where_not : (t : ℕ → Bool) (a : ℕ) → a ≡ where_set t → bit_not w64 a ≡ where_set (λ s. not (t s))
where_not t a ea =
    let fits = fits_of t a ea in
    where_is (λ s. not (t s)) (bit_not w64 a) (omega arith)
    (λ i l.
    let p = bit_of t a i ea l in
    bit_at_not w64 a i fits l ∙ rw p (not_bits (t i)))

-- one square
pub where_only : (k : ℕ) → k < 64 → 1 * 2 ^ k % 2 ^ 64 ≡ where_set (λ s. s == k)
where_only k h =
    let one : 1 * 2 ^ k % 2 ^ 64 ≡ 2 ^ k = one_shl k 64 h in
    let below : 2 ^ k < 2 ^ 64 = pow_below k 64 h in
    rw one (where_is (λ s. s == k) (2 ^ k) below
    (λ i l.
    elim (cases_eq i k) [
      | inl e ↦ let t = eq-eqb i k e in rw (t, e) (bit_at-pow_same k)
      | inr ne ↦ let f = ne_eqb i k ne in rw f (bit_at-pow_other k i ne)
    ]))

-- the set of one square, given by an equal number
pub only_at : {one j k : ℕ} → j ≡ k → one ≡ where_set (λ s. s == j) → one ≡ where_set (λ s. s == k)
only_at e is = is ∙ ap (λ (i : ℕ). where_set (λ s. s == i)) e

-- a set with two squares removed
pub where_but : {a j k one two : ℕ} (test : ℕ → Bool) (s t : ℕ) → a ≡ where_set test → j ≡ s → one ≡ where_set (λ u. u == j)
    → k ≡ t → two ≡ where_set (λ u. u == k)
    → bit_and (bit_and a (bit_not w64 one)) (bit_not w64 two) ≡ where_set (λ u. (test u && not (u == s)) && not (u == t))
where_but test s t all from one to two =
    where_and (λ u. test u && not (u == s)) (λ u. not (u == t)) _ _
    (where_and test (λ u. not (u == s)) _ _ all (where_not (λ u. u == s) _ (only_at from one))) (where_not (λ u. u == t) _ (only_at to two))

-- a bit as a test
pub in_where : (t : ℕ → Bool) (a i : ℕ) → a ≡ where_set t → i < 64 → is_in a i ≡ t i
in_where t a i e l = let p = bit_of t a i e l in rw p (one_in (t i))

-- a set is the squares that are in it
pub where_itself : (a : ℕ) → a < 2 ^ 64 → a ≡ where_set (is_in a)
where_itself a fits =
    where_is (is_in a) a fits (λ i l.
    let below = bit_at-lt a i in
    elim (cases_eq (bit_at a i) 1) [
      | inl e ↦ let t = eq-eqb (bit_at a i) 1 e in rw t e
      | inr ne ↦ let f = ne_eqb (bit_at a i) 1 ne in rw f (omega arith)
    ])

-- no square
pub where_none : (t : ℕ → Bool) (i : ℕ) → where_set t ≡ 0 → i < 64 → t i ≡ false
where_none t i e l = zero_false (t i) (sym (where_bit t i l) ∙ ap (λ (x : ℕ). bit_at x i) e ∙ bit_at-zero i)

pub where_nothing : (t : ℕ → Bool) → ((i : ℕ) → i < 64 → t i ≡ false) → where_set t ≡ 0
where_nothing t h = sym (where_is t 0 (omega arith) (λ i l. let f = h i l in rw f (bit_at-zero i)))

-- the squares whose cells a test accepts
pub set_where : (test : Cell → Bool) (cells : List Cell) → length cells ≡ 64 → set_of test cells ≡ where_set (λ s. test (cell_at cells s))
unfolding set_of
set_where test cells full =
    where_is (λ s. test (cell_at cells s)) (set_of test cells)
    (let bound = mask_l-lt (map test cells) in let same = length-map cells test ∙ full in rw same at bound)
    (λ i l. bit_mask_l (map test cells) i ∙ ap (λ (b : Bool). cond b 1 0) (get_or-map test cells i None false (omega arith)))

-- the occupied squares
pub occupied_where : {a : ℕ} (p : Parts) → IsPosition p → a ≡ set_of is_occupied p.placement
    → a ≡ where_set (λ s. is_occupied (cell_at p.placement s))
occupied_where p valid e = e ∙ set_where is_occupied p.placement valid.placement.full

none_bits : (a b : Bool) → ◌≡◌ {A = ℕ} 0 (cond ((a && not a) && b) 1 0)
none_bits true b = refl
none_bits false b = refl

all_bits : (a b : Bool) → ◌≡◌ {A = ℕ} (cond ((a && true) && b) 1 0) (cond (a && b) 1 0)
all_bits true b = refl
all_bits false b = refl

max_zero : (n : ℕ) → max n 0 ≡ n
max_zero n = omega arith

-- ---- A loop over the squares of a set, which keeps those that a test accepts.

-- of the squares of the set that are not left, those that pass were found
pub record IsFiltered (test : ℕ → Bool) (set left found : ℕ) : Type 0 where
  pub bits : (i : ℕ) → i < 64 → bit_at found i ≡ cond ((is_in set i && not (is_in left i)) && test i) 1 0
  pub inside : (i : ℕ) → i < 64 → is_in left i ≡ true → is_in set i ≡ true

-- no square yet
pub filtered_none : (test : ℕ → Bool) (set : ℕ) → IsFiltered test set set 0
filtered_none test set =
    record { bits = λ i l. bit_at-zero i ∙ none_bits (is_in set i) (test i); inside = λ i l h. h }

-- what is left after that was left before
still_in : (set left k rest i : ℕ) → IsWithout left k rest → ((j : ℕ) → j < 64 → is_in left j ≡ true → is_in set j ≡ true)
    → i < 64 → is_in rest i ≡ true → is_in set i ≡ true
still_in set left k rest i w inside l h =
    elim (cases_eq i k) [
      | inl e ↦ absurd (let one = eqb-true (bit_at rest i) 1 h in let zero = w.gone in let there = rw e at one in omega arith)
      | inr ne ↦ let same = w.others i l ne in inside i l (rw same at h)
    ]

pub filtered_in : (test : ℕ → Bool) (set left found k rest one : ℕ) → IsFiltered test set left found → IsWithout left k rest
    → test k ≡ true → one ≡ where_set (λ s. s == k) → IsFiltered test set rest (bit_or found one)
filtered_in test set left found k rest one f w passes is =
    record {
      bits = λ i l.
          let was = f.bits i l in
          let bit = bit_of (λ s. s == k) one i is l in
          elim (cases_eq i k) [
            | inl e ↦
                let here = rw e at was in
                let on = eq-eqb i k e in
                let left_in = eq-eqb (bit_at left k) 1 w.was in
                let set_in = f.inside k w.on_board left_in in
                let gone = w.gone in
                let none = rw (left_in, set_in) at here in
                bit_at_or found one i ∙ rw (bit, on, e, none, set_in, gone, passes)
            | inr ne ↦
                let off = ne_eqb i k ne in
                let same = w.others i l ne in
                bit_at_or found one i ∙ rw (bit, off, same, was) (max_zero _)
          ];
      inside = λ i l h. still_in set left k rest i w f.inside l h;
    }

pub filtered_out : (test : ℕ → Bool) (set left found k rest : ℕ) → IsFiltered test set left found → IsWithout left k rest
    → test k ≡ false → IsFiltered test set rest found
filtered_out test set left found k rest f w fails =
    record {
      bits = λ i l.
          let was = f.bits i l in
          elim (cases_eq i k) [
            | inl e ↦
                let here = rw e at was in
                let left_in = eq-eqb (bit_at left k) 1 w.was in
                let set_in = f.inside k w.on_board left_in in
                let gone = w.gone in
                let none = rw (left_in, set_in) at here in
                rw (e, none, set_in, gone, fails)
            | inr ne ↦ let same = w.others i l ne in rw same was
          ];
      inside = λ i l h. still_in set left k rest i w f.inside l h;
    }

-- no square is left
pub filtered_all : (test : ℕ → Bool) (set left found : ℕ) → found < 2 ^ 64 → left ≡ 0 → IsFiltered test set left found
    → found ≡ where_set (λ s. is_in set s && test s)
filtered_all test set left found fits e f =
    where_is (λ s. is_in set s && test s) found fits
    (λ i l.
    let was = f.bits i l in
    let none : bit_at left i ≡ 0 = ap (λ (x : ℕ). bit_at x i) e ∙ bit_at-zero i in
    rw none at was ∙ all_bits (is_in set i) (test i))
