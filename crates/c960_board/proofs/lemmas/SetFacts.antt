-- Sets of squares, bit by bit.
use Rattle.std.proofs.Common.{◌≡◌, ◌≢◌, ℕ, ◌+◌, ◌*◌, ◌%◌, ◌^◌, ◌<◌, min, max, Bool, true, false, ◌&&◌, ◌||◌, cond, List, Some, None, length, map, refl, ap, sym, ◌∙◌, inl, inr, arith, w64}
use Rattle.std.proofs.lemmas.Bool.{cases_eq, and_parts, and_from}
use Rattle.std.proofs.lemmas.List.{get_or-map, length-map}
use Rattle.std.proofs.lemmas.Nat.{and_le_l, or_lt, pow_below, one_shl}
use Rattle.std.proofs.lemmas.Nat.Bits.{bit_at_and, bit_at_or, bit_at_above, bit_at_set_same, bit_at_set_other, same_from_bits_below}
use Rattle.std.proofs.lemmas.Simd.{bit_mask_l, mask_l-lt}
use Rattle.std.specs.Prelude.{bit_and, bit_or, ◌↔◌}
use Rattle.std.specs.Int.{bit_at}
use Rattle.c960_board.specs.declared.piece.Colour.{Colour}
use Rattle.c960_board.specs.declared.piece.Colour.TheVariants.{White, Black}
use Rattle.c960_board.specs.declared.piece.Kind.{Kind}
use Rattle.c960_board.specs.declared.piece.Kind.TheVariants.{Pawn, Knight, Bishop, Rook, Queen, King}
use Rattle.c960_board.specs.declared.parts.Parts.{Parts}
use Rattle.c960_board.specs.declared.sets.Sets.{Sets}
use Rattle.c960_board.specs.Pieces.{Cell, man, same_colour, same_kind, is_of, holds}
use Rattle.c960_board.specs.Position.{IsPosition}
use Rattle.c960_board.specs.Cells.{cell_at}
use Rattle.c960_board.proofs.lemmas.Colours.{same_colour_is, same_colour_self}
use Rattle.c960_board.proofs.lemmas.Tests.{one_true}
use Rattle.c960_board.proofs.KindFacts.{same_kind_is, same_kind_self}
use Rattle.c960_board.specs.Sets.{is_occupied, is_kind, set_of, sets_of, colour_set, kind_set}
use Rattle.c960_board.specs.Inner.SetsWith.{set_with}

-- the bits below n are those of the cells that pass the test, and there are no others
pub record IsSetTo (test : Cell → Bool) (cells : List Cell) (n set : ℕ) : Type 0 where
  pub below : set < 2 ^ n
  pub bits : (i : ℕ) → i < n → bit_at set i ≡ cond (test (cell_at cells i)) 1 0

-- no cell
pub set_none : (test : Cell → Bool) (cells : List Cell) → IsSetTo test cells 0 0
set_none test cells = record { below = omega arith; bits = λ i h. absurd (omega arith) }

-- one cell more, which passes
pub set_more_in : (test : Cell → Bool) (cells : List Cell) (n set : ℕ) → n < 64 → IsSetTo test cells n set
    → test (cell_at cells n) ≡ true → IsSetTo test cells (n + 1) (bit_or set (2 ^ n))
set_more_in test cells n set within s h =
    let more : 2 ^ n < 2 ^ (n + 1) = pow_below n (n + 1) (omega arith) in
    let one : 1 * 2 ^ n % 2 ^ 64 ≡ 2 ^ n = one_shl n 64 within in
    let fits : bit_or set (2 ^ n) < 2 ^ (n + 1) = or_lt (n + 1) set (2 ^ n) (let below = s.below in omega arith) more in
    record {
      below = fits;
      bits = λ i l.
          elim (cases_eq i n) [
            | inl e ↦ rw (e, h) (rw one at (bit_at_set_same w64 set n within))
            | inr ne ↦ rw one at (bit_at_set_other w64 set n within i ne) ∙ s.bits i (omega arith)
          ];
    }

-- one cell more, which does not
pub set_more_out : (test : Cell → Bool) (cells : List Cell) (n set : ℕ) → IsSetTo test cells n set
    → test (cell_at cells n) ≡ false → IsSetTo test cells (n + 1) set
set_more_out test cells n set s h =
    let more : 2 ^ n < 2 ^ (n + 1) = pow_below n (n + 1) (omega arith) in
    record {
      below = let below = s.below in omega arith;
      bits = λ i l.
          elim (cases_eq i n) [
            | inl e ↦ rw (e, h) (bit_at_above set n n s.below (omega arith))
            | inr ne ↦ s.bits i (omega arith)
          ];
    }

-- a bit of the set of a test
pub set_bit : (test : Cell → Bool) (cells : List Cell) (i : ℕ) → i < length cells
    → bit_at (set_of test cells) i ≡ cond (test (cell_at cells i)) 1 0
unfolding set_of
set_bit test cells i h =
    bit_mask_l (map test cells) i ∙ ap (λ (b : Bool). cond b 1 0) (get_or-map test cells i None false h)

-- it fits a word
pub set_fits : (test : Cell → Bool) (cells : List Cell) → length cells ≡ 64 → set_of test cells < 2 ^ 64
unfolding set_of
set_fits test cells full = let bound = mask_l-lt (map test cells) in let same = length-map cells test ∙ full in rw same at bound

-- a set by its bits
pub set_is : (test : Cell → Bool) (cells : List Cell) (set : ℕ) → length cells ≡ 64 → set < 2 ^ 64
    → ((i : ℕ) → i < 64 → bit_at set i ≡ cond (test (cell_at cells i)) 1 0) → set ≡ set_of test cells
set_is test cells set full fits h =
    same_from_bits_below 64 set (set_of test cells) fits (set_fits test cells full)
    (λ i l. h i l ∙ sym (set_bit test cells i (omega arith)))

-- all cells
pub set_all : (test : Cell → Bool) (cells : List Cell) (n set : ℕ) → n ≡ 64 → length cells ≡ 64 → IsSetTo test cells n set
    → set ≡ set_of test cells
set_all test cells n set e full s = set_is test cells set full (rw e at s.below) (λ i l. s.bits i (omega arith))

-- ---- Two sets.

-- the bits of two tests, in the union and in the intersection
pub or_bits : (a b : Bool) → max (cond a 1 0) (cond b 1 0) ≡ cond (a || b) 1 0
or_bits true true = refl
or_bits true false = refl
or_bits false true = refl
or_bits false false = refl

pub and_bits : (a b : Bool) → min (cond a 1 0) (cond b 1 0) ≡ cond (a && b) 1 0
and_bits true true = refl
and_bits true false = refl
and_bits false true = refl
and_bits false false = refl

-- one bit of each
bits_of : (t : Cell → Bool) (cells : List Cell) (a i : ℕ) → length cells ≡ 64 → a ≡ set_of t cells → i < 64
    → bit_at a i ≡ cond (t (cell_at cells i)) 1 0
bits_of t cells a i full e l = ap (λ (x : ℕ). bit_at x i) e ∙ set_bit t cells i (omega arith)

-- the union
pub set_or : (t u v : Cell → Bool) (cells : List Cell) (a b : ℕ) → length cells ≡ 64 → ((x : Cell) → v x ≡ (t x || u x))
    → a ≡ set_of t cells → b ≡ set_of u cells → bit_or a b ≡ set_of v cells
set_or t u v cells a b full is ea eb =
    set_is v cells (bit_or a b) full (or_lt 64 a b (rw ea (set_fits t cells full)) (rw eb (set_fits u cells full)))
    (λ i l.
    let p = bits_of t cells a i full ea l in
    let q = bits_of u cells b i full eb l in
    let r = is (cell_at cells i) in
    bit_at_or a b i ∙ rw (p, q, r) (or_bits (t (cell_at cells i)) (u (cell_at cells i))))

-- and the intersection
pub set_and : (t u v : Cell → Bool) (cells : List Cell) (a b : ℕ) → length cells ≡ 64 → ((x : Cell) → v x ≡ (t x && u x))
    → a ≡ set_of t cells → b ≡ set_of u cells → bit_and a b ≡ set_of v cells
set_and t u v cells a b full is ea eb =
    set_is v cells (bit_and a b) full
    (let below = and_le_l a b in let fits : a < 2 ^ 64 = rw ea (set_fits t cells full) in omega arith)
    (λ i l.
    let p = bits_of t cells a i full ea l in
    let q = bits_of u cells b i full eb l in
    let r = is (cell_at cells i) in
    bit_at_and a b i ∙ rw (p, q, r) (and_bits (t (cell_at cells i)) (u (cell_at cells i))))

-- ---- What the sets of positions say.

pub occupied_either : (x : Cell) → is_occupied x ≡ (is_of White x || is_of Black x)
occupied_either None = refl
occupied_either (Some p) = elim p.colour as (λ c. true ≡ (same_colour c White || same_colour c Black)) [ White ↦ refl | Black ↦ refl ]

pub holds_both : (c : Colour) (k : Kind) (x : Cell) → holds c k x ≡ (is_of c x && is_kind k x)
holds_both c k None = refl
holds_both c k (Some p) = refl

-- a bit of a set, if its test states a fact
pub bit_says : (t : Cell → Bool) (P : Cell → Type 0) (cells : List Cell) (a s : ℕ) → length cells ≡ 64 → a ≡ set_of t cells
    → ((x : Cell) → (t x ≡ true) ↔ P x) → s < 64 → (bit_at a s ≡ 1) ↔ P (cell_at cells s)
bit_says t P cells a s full e says l =
    let bit = bits_of t cells a s full e l in (
      λ h. (says (cell_at cells s)).0 (one_true (t (cell_at cells s)) (sym bit ∙ h)),
      λ h. bit ∙ ap (λ (b : Bool). cond b 1 0) ((says (cell_at cells s)).1 h),
    )

pub occupied_says : (x : Cell) → (is_occupied x ≡ true) ↔ (x ≢ None)
occupied_says None = (λ h. absurd cc, λ h. absurd (h refl))
occupied_says (Some p) = (λ h e. cc, λ h. refl)

-- the sets of a placement, one by one
pub colour_is : (c : Colour) (cells : List Cell) → colour_set c (sets_of cells) ≡ set_of (is_of c) cells
colour_is White cells = refl
colour_is Black cells = refl

pub kind_is : (k : Kind) (cells : List Cell) → kind_set k (sets_of cells) ≡ set_of (is_kind k) cells
kind_is Pawn cells = refl
kind_is Knight cells = refl
kind_is Bishop cells = refl
kind_is Rook cells = refl
kind_is Queen cells = refl
kind_is King cells = refl

-- what the fields of a position say of its parts
pub opened : (q p : Parts) (s : Sets) → IsPosition q → s ≡ sets_of q.placement → q ≡ p
    → (length p.placement ≡ 64) × (s ≡ sets_of p.placement)
opened q p s valid is e =
    (ap (λ (r : Parts). length r.placement) (sym e) ∙ valid.placement.full, is ∙ ap (λ (r : Parts). sets_of r.placement) e)

-- a piece, from its test and to it
pub man_says : (c : Colour) (k : Kind) (x : Cell) → (holds c k x ≡ true) ↔ (x ≡ man c k)
man_says c k None = (λ h. absurd cc, λ h. absurd cc)
man_says c k (Some p) = (
  λ h.
      let parts = and_parts (same_colour p.colour c) (same_kind p.kind k) h in
      let a = same_colour_is p.colour c parts.0 in
      let b = same_kind_is p.kind k parts.1 in
      rw (← a, ← b),
  λ h.
      let e : p ≡ record { colour = c; kind = k } = cc in
      rw e (and_from (same_colour c c) (same_kind k k) (same_colour_self c) (same_kind_self k)),
)

-- one cell more, whether it passes or not
pub set_more : (test : Cell → Bool) (cells : List Cell) (n set : ℕ) (b : Bool) → n < 64 → IsSetTo test cells n set
    → test (cell_at cells n) ≡ b → IsSetTo test cells (n + 1) (set_with b n set)
set_more test cells n set true within s h = set_more_in test cells n set within s h
set_more test cells n set false within s h = set_more_out test cells n set s h
