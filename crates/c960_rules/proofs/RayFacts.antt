-- Rays up to their first blockers, and lines made of them.
use Rattle.std.proofs.Common.{◌≡◌, ℕ, suc, ◌+◌, ◌-◌, ◌/◌, ◌%◌, ◌^◌, ◌<◌, Bool, true, false, not, ◌&&◌, ◌||◌, cond, nat_lt, refl, ap, sym, subst, ◌∙◌, inl, inr, arith, w64}
use Rattle.std.proofs.Math.Bool.{and-false, or-false}
use Rattle.std.proofs.Math.Nat.{div-eq_of_lt-le, pow-suc}
use Rattle.std.proofs.lemmas.Bool.{cases_eq, cases_lt, eq-eqb, ne_eqb, both_ways, ltb-true, ltb-false}
use Rattle.std.proofs.lemmas.Nat.{leading_top, or_lt, xor_lt, and_le_r}
use Rattle.std.proofs.lemmas.Nat.Bits.{bit_at_or, bit_at_xor, bit_at-lt, bit_at-zero, bit_at_above, bit_at-pow_same, bit_at-pow_other}
use Rattle.std.specs.Prelude.{◌==◌, bit_and, bit_or, bit_xor}
use Rattle.std.specs.Int.{bit_at, trailing_zeros, leading_zeros}
use Rattle.c960_board.specs.Lowest.{IsLowest}
use Rattle.c960_board.specs.Sets.{is_in}
use Rattle.c960_board.proofs.lemmas.LowestFacts.{before_gone, before_below, before_above, lowest_of, below_width}
use Rattle.c960_rules.specs.Inner.Wheres.{where_set, is_free}
use Rattle.c960_rules.specs.Inner.Rays.{below, above, is_unblocked}
use Rattle.c960_rules.proofs.RayTables.{IsRay}
use Rattle.c960_rules.proofs.WhereFacts.{in_where, where_agree, where_and, where_or, where_is, where_itself, where_none, where_nothing}

-- ---- The first and the last square of a set.

-- a set with a square is not empty
some_bit : (word i : ℕ) → bit_at word i ≡ 1 → 0 < word
some_bit word i h =
    elim (cases_eq word 0) [
      | inl e ↦ absurd (let none : bit_at word i ≡ 0 = ap (λ (x : ℕ). bit_at x i) e ∙ bit_at-zero i in omega arith)
      | inr ne ↦ omega arith
    ]

-- the highest square of a set with a1
pub highest_is : (set : ℕ) → set < 2 ^ 64
    → let k = 63 - leading_zeros w64 (bit_or set 1) in
    (leading_zeros w64 (bit_or set 1) < 64) × ((u : ℕ) → k < u → u < 64 → bit_at set u ≡ 0) × (0 < k → bit_at set k ≡ 1)
highest_is set fits =
    let word : ℕ = bit_or set 1 in
    let at = λ (u : ℕ). bit_at_or set 1 u in
    let full : word < 2 ^ 64 = or_lt 64 set 1 fits (omega arith) in
    let first : bit_at word 0 ≡ 1 = let low = bit_at-pow_same 0 in let bound = bit_at-lt set 0 in let e = at 0 in omega arith in
    let top = leading_top 64 word (some_bit word 0 first) full in
    let j = top.0 in
    let place = top.1 in
    let is : 63 - leading_zeros w64 word ≡ j = omega arith in
    let double = pow-suc 2 j in
    let least = top.2 in
    let beyond = top.3 in
    let quotient : word / 2 ^ j ≡ 1 = div-eq_of_lt-le {k = 1} (2 ^ j) (omega arith) (omega arith) in
    let on : bit_at word j ≡ 1 = ap (λ (x : ℕ). x % 2) quotient in (
      omega arith,
      λ u l b. let none = bit_at_above word (suc j) u beyond (omega arith) in let e = at u in omega arith,
      λ l.
          let off : bit_at 1 j ≡ 0 = bit_at-pow_other 0 j (omega arith) in
          let e = at j in
          ap (bit_at set) is ∙ omega arith,
    )

-- ---- Up to the first blocker.

-- the first square of a set in an order, or the last of all squares
pub record IsFirst (before : ℕ → ℕ → Bool) (set first : ℕ) : Type 0 where
  pub on_board : first < 64
  pub least : (u t : ℕ) → u < 64 → before u t ≡ true → before first t ≡ false → is_in set u ≡ false
  pub inside : (t : ℕ) → t < 64 → before first t ≡ true → is_in set first ≡ true

-- a square of the ray, before another, occupied
clear_bits : (r b o : Bool) → (b ≡ true → (r && o) ≡ false) → ((r && b) && o) ≡ false
clear_bits true true o h = h refl
clear_bits true false o h = refl
clear_bits false b o h = refl

blocked_bits : (r b o : Bool) → b ≡ true → (r && o) ≡ true → ((r && b) && o) ≡ true
blocked_bits true true o e h = h
blocked_bits true false o e h = cc
blocked_bits false b o e h = cc

-- the way along a ray to t is open exactly if its first blocker does not come before t
unblocked_is : (before : ℕ → ℕ → Bool) (ray occupied first t : ℕ) → ray < 2 ^ 64 → occupied < 2 ^ 64
    → IsFirst before (bit_and ray occupied) first → t < 64 → is_unblocked before ray occupied t ≡ not (before first t)
unfolding is_unblocked
unblocked_is before ray occupied first t fits full w l =
    let near = λ (u : ℕ). is_in ray u && before u t in
    let both : bit_and (bit_and ray (where_set (λ u. before u t))) occupied ≡ where_set (λ u. near u && is_in occupied u) =
    where_and near (is_in occupied) _ occupied
    (where_and (is_in ray) (λ u. before u t) ray _ (where_itself ray fits) refl) (where_itself occupied full) in
    let blocker = λ (u : ℕ) (k : u < 64).
    in_where (λ v. is_in ray v && is_in occupied v) (bit_and ray occupied) u
    (where_and (is_in ray) (is_in occupied) ray occupied (where_itself ray fits) (where_itself occupied full)) k in
    let way : ℕ = bit_and (bit_and ray (where_set (λ u. before u t))) occupied in
    elim (before first t) as (λ b. before first t ≡ b → (way == 0) ≡ not b) [
      | true ↦ λ e.
          ne_eqb way 0 (λ z.
          both_ways (near first && is_in occupied first)
          (where_none (λ u. near u && is_in occupied u) first (sym both ∙ z) w.on_board)
          (blocked_bits (is_in ray first) (before first t) (is_in occupied first) e (sym (blocker first w.on_board) ∙ w.inside t l e)))
      | false ↦ λ e.
          eq-eqb way 0
          (both ∙ where_nothing (λ u. near u && is_in occupied u) (λ u k.
          clear_bits (is_in ray u) (before u t) (is_in occupied u) (λ on. sym (blocker u k) ∙ w.least u t k on e)))
    ] refl

-- so the squares of the ray that do not come after the first blocker are those to which the way is open
up_to_first : (before : ℕ → ℕ → Bool) (ray occupied first mask : ℕ) → ray < 2 ^ 64 → occupied < 2 ^ 64
    → IsFirst before (bit_and ray occupied) first → mask ≡ where_set (λ t. not (before first t))
    → bit_and ray mask ≡ where_set (λ t. is_in ray t && is_unblocked before ray occupied t)
up_to_first before ray occupied first mask fits full w e =
    where_and (is_in ray) (λ t. not (before first t)) ray mask (where_itself ray fits) e
    ∙ where_agree (λ t. is_in ray t && not (before first t)) (λ t. is_in ray t && is_unblocked before ray occupied t)
    (λ t l. ap (λ (b : Bool). is_in ray t && b) (sym (unblocked_is before ray occupied first t fits full w l)))

-- ---- The masks.

-- the bits that change where 1 is taken from a number with its lowest 1 at k
changed_bits : (b k t : ℕ) → 0 < b → IsLowest b k → bit_at (bit_xor b (b - 1)) t ≡ cond (not (below k t)) 1 0
changed_bits b k t some l =
    let e = bit_at_xor b (b - 1) t in
    elim (nat_lt k t) as (λ x. nat_lt k t ≡ x → bit_at (bit_xor b (b - 1)) t ≡ cond (not x) 1 0) [
      | true ↦ λ x. let after = ltb-true k t x in let same = before_above b k t l after in let bound = bit_at-lt b t in omega arith
      | false ↦ λ x.
          let upto = ltb-false k t x in
          elim (cases_lt t k) [
            | inl m ↦ let was = l.least t m in let is = before_below b k t some l m in omega arith
            | inr m ↦
                let at : t ≡ k = omega arith in
                let was = ap (bit_at b) at ∙ l.inside in
                let is = ap (bit_at (b - 1)) at ∙ before_gone b k l in
                omega arith
          ]
    ] refl

-- those are the squares up to the lowest
changed_up_to : (b k : ℕ) → 0 < b → b < 2 ^ 64 → IsLowest b k → bit_xor b (b - 1) ≡ where_set (λ t. not (below k t))
changed_up_to b k some fits l =
    where_is (λ t. not (below k t)) (bit_xor b (b - 1)) (xor_lt 64 b (b - 1) fits (omega arith)) (λ t m. changed_bits b k t some l)

-- where there is no square, all of them change
all_up_to_last : 2 ^ 64 - 1 ≡ where_set (λ t. not (below 63 t))
unfolding where_set
all_up_to_last = refl

-- ---- The ray up to its first blocker, as the code computes it.

-- where the numbers rise, the first square is the lowest
first_rising : (ray occupied k : ℕ) → k < 64 → ((u : ℕ) → u < k → bit_at (bit_and ray occupied) u ≡ 0)
    → (k < 63 → bit_at (bit_and ray occupied) k ≡ 1) → IsFirst below (bit_and ray occupied) k
first_rising ray occupied k bound least inside =
    record {
      on_board = bound;
      least = λ u t l on off.
          let under = ltb-true u t on in
          let upto = ltb-false k t off in
          ne_eqb (bit_at (bit_and ray occupied) u) 1 (λ h. let none = least u (omega arith) in omega arith);
      inside = λ t l on. let under = ltb-true k t on in eq-eqb (bit_at (bit_and ray occupied) k) 1 (inside (omega arith));
    }

-- where they fall, it is the highest
first_falling : (ray occupied k : ℕ) → k < 64 → ((u : ℕ) → k < u → u < 64 → bit_at (bit_and ray occupied) u ≡ 0)
    → (0 < k → bit_at (bit_and ray occupied) k ≡ 1) → IsFirst above (bit_and ray occupied) k
first_falling ray occupied k bound greatest inside =
    record {
      on_board = bound;
      least = λ u t l on off.
          let over = ltb-true t u on in
          let from = ltb-false t k off in
          ne_eqb (bit_at (bit_and ray occupied) u) 1 (λ h. let none = greatest u (omega arith) l in omega arith);
      inside = λ t l on. let over = ltb-true t k on in eq-eqb (bit_at (bit_and ray occupied) k) 1 (inside (omega arith));
    }

-- a set without a square begins with the last
first_of_none : IsFirst below 0 63
first_of_none = record {
  on_board = omega arith;
  least = λ u t l on off. ne_eqb (bit_at 0 u) 1 (λ h. let none = bit_at-zero u in omega arith);
  inside = λ t l on. absurd (let after = ltb-true 63 t on in omega arith);
}

-- the bits of the blockers that change where 1 is taken from them, modulo 2 ^ 64
pub rising_is : (ray occupied : ℕ) → ray < 2 ^ 64 → occupied < 2 ^ 64
    → bit_and ray (bit_xor (bit_and ray occupied) ((bit_and ray occupied + (2 ^ 64 - 1)) % 2 ^ 64))
    ≡ where_set (λ t. is_in ray t && is_unblocked below ray occupied t)
rising_is ray occupied fits full =
    let b : ℕ = bit_and ray occupied in
    let bound : b < 2 ^ 64 = omega (arith, and_le_r ray occupied) in
    elim (cases_eq b 0) [
      | inl e ↦
          up_to_first below ray occupied 63 _ fits full (subst (λ (x : ℕ). IsFirst below x 63) (sym e) first_of_none)
          (ap (λ (x : ℕ). bit_xor x ((x + (2 ^ 64 - 1)) % 2 ^ 64)) e ∙ all_up_to_last)
      | inr ne ↦
          let some : 0 < b = omega arith in
          let l = lowest_of b some bound in
          let k : ℕ = trailing_zeros w64 b in
          let before : (b + (2 ^ 64 - 1)) % 2 ^ 64 ≡ b - 1 = omega arith in
          up_to_first below ray occupied k _ fits full
          (first_rising ray occupied k (below_width b 64 k bound l.inside) (λ u m. l.least u m) (λ _. l.inside))
          (ap (bit_xor b) before ∙ changed_up_to b k some bound l)
    ]

pub falling_is : {mask : ℕ} (ray occupied k : ℕ) → ray < 2 ^ 64 → occupied < 2 ^ 64 → k < 64
    → ((u : ℕ) → k < u → u < 64 → bit_at (bit_and ray occupied) u ≡ 0) → (0 < k → bit_at (bit_and ray occupied) k ≡ 1)
    → mask ≡ where_set (λ t. not (above k t)) → bit_and ray mask ≡ where_set (λ t. is_in ray t && is_unblocked above ray occupied t)
falling_is ray occupied k fits full bound greatest inside is =
    up_to_first above ray occupied k _ fits full (first_falling ray occupied k bound greatest inside) is

-- ---- The tests of a ray are those of a free way.

ray_bits : (r : Bool) (u f : Bool) → (r ≡ true → u ≡ f) → (r && u) ≡ (r && f)
ray_bits true u f h = h refl
ray_bits false u f h = refl

-- the squares of a ray to which its own squares leave the way open are those to which the way is free
pub ray_reach : {set reached : ℕ} (ray before : ℕ → ℕ → Bool) (s occupied : ℕ) → IsRay ray before → s < 64 → set ≡ where_set (ray s)
    → reached ≡ where_set (λ t. is_in set t && is_unblocked before set occupied t)
    → reached ≡ where_set (λ t. ray s t && is_free occupied s t)
unfolding is_unblocked is_free
ray_reach {set = set} ray before s occupied w h is e =
    e ∙ where_agree (λ t. is_in set t && is_unblocked before set occupied t) (λ t. ray s t && is_free occupied s t)
    (λ t l.
    ap (λ (b : Bool). b && is_unblocked before set occupied t) (in_where (ray s) set t is l)
    ∙ ray_bits (ray s t) (is_unblocked before set occupied t) (is_free occupied s t) (λ on.
    ap (λ (x : ℕ). bit_and (bit_and x (where_set (λ u. before u t))) occupied == 0) is
    ∙ ap (λ (x : ℕ). bit_and x occupied == 0) (sym (w.near s t h l on))))

both_bits : (a b f : Bool) → ((a && f) || (b && f)) ≡ ((a || b) && f)
both_bits true true true = refl
both_bits true false true = refl
both_bits false true true = refl
both_bits false false true = refl
both_bits a b false = simp (and-false, or-false)

-- the reach along either of two rays, or lines
pub two_rays : {w x : ℕ} (a b : ℕ → Bool) (s occupied : ℕ) → w ≡ where_set (λ t. a t && is_free occupied s t)
    → x ≡ where_set (λ t. b t && is_free occupied s t) → bit_or w x ≡ where_set (λ t. (a t || b t) && is_free occupied s t)
two_rays a b s occupied ew ex =
    where_or (λ t. a t && is_free occupied s t) (λ t. b t && is_free occupied s t) _ _ ew ex
    ∙ where_agree (λ t. (a t && is_free occupied s t) || (b t && is_free occupied s t)) (λ t. (a t || b t) && is_free occupied s t)
    (λ t l. both_bits (a t) (b t) (is_free occupied s t))

-- four rays make a line
pub four_rays : {w x y z : ℕ} (line a b c d : ℕ → Bool) (s occupied : ℕ)
    → ((t : ℕ) → t < 64 → line t ≡ ((a t || b t) || (c t || d t)))
    → w ≡ where_set (λ t. a t && is_free occupied s t) → x ≡ where_set (λ t. b t && is_free occupied s t)
    → y ≡ where_set (λ t. c t && is_free occupied s t) → z ≡ where_set (λ t. d t && is_free occupied s t)
    → bit_or (bit_or w x) (bit_or y z) ≡ where_set (λ t. line t && is_free occupied s t)
four_rays line a b c d s occupied same ew ex ey ez =
    two_rays (λ t. a t || b t) (λ t. c t || d t) s occupied (two_rays a b s occupied ew ex) (two_rays c d s occupied ey ez)
    ∙ where_agree (λ t. ((a t || b t) || (c t || d t)) && is_free occupied s t) (λ t. line t && is_free occupied s t)
    (λ t l. ap (λ (p : Bool). p && is_free occupied s t) (sym (same t l)))
