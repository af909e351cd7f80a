-- What a search in a row of tags finds.
use Rattle.std.proofs.Common.{◌≡◌, ◌≢◌, ℕ, ◌+◌, ◌-◌, ◌*◌, ◌^◌, ◌<◌, ◌≤◌, ◌==◌, suc, inl, inr, Bool, true, false, cond, eqb, List, [], ◌∷◌, length, map, drop, drop-cons, length-drop, slice_index, refl, sym, ap, subst, ◌∙◌, arith}
use mir.Val.{bool_byte}
use Rattle.std.specs.Prelude.{bit_and}
use Rattle.std.specs.Int.{bit_at}
use Rattle.std.specs.Simd.Lanes.{chunk, mask_l}
use Rattle.std.proofs.lemmas.Bool.{cases_lt, eqb-true}
use Rattle.std.proofs.Math.Pow.{pow_mono}
use Rattle.std.proofs.lemmas.List.{get_or-map, length-map, take_all}
use Rattle.std.proofs.lemmas.Nat.Bits.{bit_at-zero, bit_at_above}
use Rattle.std.proofs.lemmas.Simd.{bit_mask_l, get_or-chunk, length-chunk, mask_l-lt}
use Rattle.c960_board.specs.Lowest.{IsLowest}
use Rattle.c960_board.proofs.lemmas.LowestFacts.{lowest_gone, others_stay}
use Rattle.c960_board.proofs.lemmas.Tests.{one_true, zero_false}
use Rattle.relay_core.specs.declared.tags.TagSearch.{TagSearch}
use Rattle.relay_core.specs.Inner.TagRow.{PassesOver, IsSearch}

-- the same of an equal row, tag and place
pub passes_as : (ts us : List ℕ) (t u from at to : ℕ) → ts ≡ us → t ≡ u → from ≡ at → PassesOver ts t from to → PassesOver us u at to
passes_as ts us t u from at to row tag place passed = λ k not_before below.
    ap (λ x. eqb x u) (ap (λ l. slice_index l k) (sym row)) ∙ ap (λ x. eqb (slice_index ts k) x) (sym tag)
    ∙ passed k (omega (arith, not_before, place)) below

pub search_as : (ts us : List ℕ) (t u : ℕ) (s : TagSearch) → ts ≡ us → t ≡ u → IsSearch ts t s → IsSearch us u s
search_as ts us t u s row tag is = subst (λ l. IsSearch l u s) row (subst (λ x. IsSearch ts x s) tag is)

-- where no bit is left, the block's places are passed over
pub exhausted : (tags : List ℕ) (tag : ℕ) (s : TagSearch) → IsSearch tags tag s → s.left ≡ 0 → PassesOver tags tag s.from.value s.ahead
exhausted tags tag s is none = λ k not_before below. elim (cases_lt k s.block) [
  | inl before ↦ is.passed k not_before before
  | inr inside ↦
      let all : s.block + (k - s.block) ≡ k = omega (arith, inside) in
      subst (λ j. (slice_index tags j == tag) ≡ false) all
      (is.others (k - s.block) (omega (arith, all, not_before)) (omega (arith, all, below)) (ap (λ n. bit_at n (k - s.block)) none ∙ bit_at-zero (k - s.block)))
]

-- ---- The next block.

-- the k-th bit of a block's mask tells of the k-th tag
bit_of : (tags : List ℕ) (tag at n k : ℕ) → at + n ≤ length tags → k < n
    → bit_at (mask_l (map (λ t. t == tag) (chunk at n tags))) k ≡ cond (slice_index tags (at + k) == tag) 1 0
bit_of tags tag at n k all below =
    let block : List ℕ = chunk at n tags in
    let inside : k < length block = omega (arith, below, length-chunk at n tags all) in
    bit_mask_l (map (λ t. eqb t tag) block) k
    ∙ ap (λ b. cond b 1 0) (get_or-map (λ t. eqb t tag) block k 0 false inside ∙ ap (λ t. eqb t tag) (get_or-chunk at n tags k 0 below))

-- a bit that is 1 is one of the block's
bit_within : (tags : List ℕ) (tag at n k : ℕ) → at + n ≤ length tags → bit_at (mask_l (map (λ t. t == tag) (chunk at n tags))) k ≡ 1 → k < n
bit_within tags tag at n k all set = elim (cases_lt k n) [
  | inl below ↦ below
  | inr beyond ↦
      let long : length (map (λ t. eqb t tag) (chunk at n tags)) ≡ n = length-map (chunk at n tags) (λ t. eqb t tag) ∙ length-chunk at n tags all in
      absurd (omega (
        arith,
        set,
        bit_at_above (mask_l (map (λ t. eqb t tag) (chunk at n tags))) n k
            (subst (λ m. mask_l (map (λ t. eqb t tag) (chunk at n tags)) < 2 ^ m) long (mask_l-lt (map (λ t. eqb t tag) (chunk at n tags)))) beyond,
      ))
]

-- a test as a number
pub bool_bit : (b : Bool) → bool_byte b ≡ cond b 1 0
bool_bit true = refl
bool_bit false = refl

pub bool_below : (b : Bool) → bool_byte b < 2
bool_below true = omega arith
bool_below false = omega arith

-- behind the last tag there is none
pub none_marked : (tags : List ℕ) (tag : ℕ) → mask_l (map (λ t. t == tag) (drop (length tags) tags)) ≡ 0
none_marked [] tag = refl
none_marked (t ∷ tags) tag = none_marked tags tag

-- the mask of the tags from a place on, with that place's bit first
pub one_more_mark : (tags : List ℕ) (tag k : ℕ) → k < length tags
    → mask_l (map (λ t. t == tag) (drop k tags)) ≡ cond (slice_index tags k == tag) 1 0 + 2 * mask_l (map (λ t. t == tag) (drop (suc k) tags))
one_more_mark tags tag k inside = ap (λ ts. mask_l (map (λ t. eqb t tag) ts)) (drop-cons tags k 0 inside)

-- as a bit fits before it
pub room_for_mark : (tags : List ℕ) (tag k : ℕ) → length tags - k < 64 → mask_l (map (λ t. t == tag) (drop k tags)) < 2 ^ 63
room_for_mark tags tag k few =
    let long : length (map (λ t. eqb t tag) (drop k tags)) ≡ length tags - k = length-map (drop k tags) (λ t. eqb t tag) ∙ length-drop k tags in
    omega (arith, mask_l-lt (map (λ t. eqb t tag) (drop k tags)), pow_mono {i = length (map (λ t. eqb t tag) (drop k tags))} {j = 63} (omega (arith, long, few)))

-- the last block is all that is behind its beginning
pub last_block : (tags : List ℕ) (tag at : ℕ) → mask_l (map (λ t. t == tag) (drop at tags)) ≡ mask_l (map (λ t. t == tag) (chunk at (length tags - at) tags))
last_block tags tag at =
    ap (λ ts. mask_l (map (λ t. eqb t tag) ts)) (sym (take_all (length tags - at) (drop at tags) (omega (arith, length-drop at tags))))

-- a search whose block has no bit left goes on with the next block's mask
pub marked : (tags : List ℕ) (tag n : ℕ) (s t : TagSearch) → IsSearch tags tag s → s.left ≡ 0 → s.ahead + n ≤ length tags
    → t.from.value ≡ s.from.value → t.block ≡ s.ahead → t.ahead ≡ s.ahead + n → t.left ≡ mask_l (map (λ x. x == tag) (chunk s.ahead n tags)) → IsSearch tags tag t
marked tags tag n s t is none all from block ahead left =
    let bit : (k : ℕ) → bit_at t.left k ≡ bit_at (mask_l (map (λ x. x == tag) (chunk s.ahead n tags))) k = λ k. ap (λ m. bit_at m k) left in
    let on : (k : ℕ) → bit_at t.left k ≡ 1 → k < n = λ k set. bit_within tags tag s.ahead n k all (sym (bit k) ∙ set) in
    let at : (k : ℕ) → slice_index tags (s.ahead + k) ≡ slice_index tags (t.block + k) = λ k. ap (λ b. slice_index tags (b + k)) (sym block) in
    record {
      ordered = omega (arith, block, ahead);
      inside = omega (arith, ahead, all);
      reached = omega (arith, from, ahead, is.reached);
      passed = λ k not_before below. exhausted tags tag s is none k (omega (arith, not_before, from)) (omega (arith, below, block));
      behind = λ k set. omega (arith, from, block, is.reached);
      within = λ k set. omega (arith, block, ahead, on k set);
      have_it = λ k set.
          ap (λ x. eqb x tag) (sym (at k)) ∙ one_true (slice_index tags (s.ahead + k) == tag) (sym (bit_of tags tag s.ahead n k all (on k set)) ∙ sym (bit k) ∙ set);
      others = λ k not_before below clear.
          ap (λ x. eqb x tag) (sym (at k))
          ∙ zero_false (slice_index tags (s.ahead + k) == tag)
          (sym (bit_of tags tag s.ahead n k all (omega (arith, below, block, ahead))) ∙ sym (bit k) ∙ clear);
    }

-- ---- The lowest bit.

module _ (tags : List ℕ) (tag : ℕ) (s : TagSearch) (is : IsSearch tags tag s) (first : ℕ) (lowest : IsLowest s.left first) where
  pub first_behind : s.from.value ≤ s.block + first
  first_behind = is.behind first lowest.inside

  pub first_within : s.block + first < length tags
  first_within = omega (arith, is.within first lowest.inside, is.inside)

  pub first_has_it : slice_index tags (s.block + first) ≡ tag
  first_has_it = eqb-true _ _ (is.have_it first lowest.inside)

  pub first_passed : PassesOver tags tag s.from.value (s.block + first)
  first_passed = λ k not_before below. elim (cases_lt k s.block) [
    | inl before ↦ is.passed k not_before before
    | inr inside ↦
        let all : s.block + (k - s.block) ≡ k = omega (arith, inside) in
        let least : k - s.block < first = omega (arith, all, below) in
        subst (λ j. (slice_index tags j == tag) ≡ false) all
        (is.others (k - s.block) (omega (arith, all, not_before)) (omega (arith, all, below, is.within first lowest.inside))
        (lowest.least (k - s.block) least))
  ]

  -- the bits that stay are those above the lowest
  stays : (k : ℕ) → bit_at (bit_and s.left (s.left - 1)) k ≡ 1 → (first < k) × (bit_at s.left k ≡ 1)
  stays k set =
      let other : k ≢ first = λ same.
      absurd (omega (arith, set, ap (λ j. bit_at (bit_and s.left (s.left - 1)) j) same, lowest_gone s.left first lowest)) in
      let was : bit_at s.left k ≡ 1 = sym (others_stay s.left first k lowest other) ∙ set in
      elim (cases_lt k first) [
        | inl below ↦ absurd (omega (arith, was, lowest.least k below))
        | inr from ↦ (omega (arith, other, from), was)
      ]

  pub goes_on : (t : TagSearch) → t.from.value ≡ s.block + first + 1 → t.block ≡ s.block → t.ahead ≡ s.ahead
      → t.left ≡ bit_and s.left (s.left - 1) → IsSearch tags tag t
  goes_on t from block ahead left =
      let bit : (k : ℕ) → bit_at t.left k ≡ bit_at (bit_and s.left (s.left - 1)) k = λ k. ap (λ m. bit_at m k) left in
      let kept : (k : ℕ) → bit_at t.left k ≡ 1 → (first < k) × (bit_at s.left k ≡ 1) = λ k set. stays k (sym (bit k) ∙ set) in
      let at : (k : ℕ) → slice_index tags (s.block + k) ≡ slice_index tags (t.block + k) = λ k. ap (λ b. slice_index tags (b + k)) (sym block) in
      record {
        ordered = omega (arith, block, ahead, is.ordered);
        inside = omega (arith, ahead, is.inside);
        reached = omega (arith, from, ahead, is.within first lowest.inside);
        passed = λ k not_before below. absurd (omega (arith, not_before, below, from, block));
        behind = λ k set. omega (arith, from, block, (kept k set).0);
        within = λ k set. omega (arith, block, ahead, is.within k (kept k set).1);
        have_it = λ k set. ap (λ x. eqb x tag) (sym (at k)) ∙ is.have_it k (kept k set).1;
        others = λ k not_before below clear.
            let above : first < k = omega (arith, from, block, not_before) in
            let other : k ≢ first = λ same. absurd (omega (arith, above, same)) in
            ap (λ x. eqb x tag) (sym (at k))
            ∙ is.others k (omega (arith, is.behind first lowest.inside, above)) (omega (arith, block, ahead, below))
            (sym (others_stay s.left first k lowest other) ∙ sym (bit k) ∙ clear);
      }
