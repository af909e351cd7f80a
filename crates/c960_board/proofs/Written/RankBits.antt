-- The squares of a rank, by the bits of the sets.
use Rattle.std.proofs.Common.{◌≡◌, ◌≢◌, ℕ, ◌+◌, ◌*◌, ◌/◌, ◌%◌, ◌^◌, ◌<◌, min, max, None, Some, inl, inr, refl, sym, ap, ◌∙◌, arith, bit_or}
use Rattle.std.specs.Prelude.{bit_and}
use Rattle.std.specs.Int.{bit_at}
use Rattle.std.proofs.Math.Nat.{div-div-eq-div-mul}
use Rattle.std.proofs.lemmas.Bool.{cases_eq}
use Rattle.std.proofs.lemmas.Nat.{pow-add}
use Rattle.std.proofs.lemmas.Nat.Bits.{bit_at_and, bit_at_or, bit_at_ones, bit_at-lt}
use Rattle.c960_board.specs.declared.sets.Sets.{Sets}
use Rattle.c960_board.specs.Sets.{cell_in}
use Rattle.c960_board.specs.Inner.PieceLetters.{piece_in}

-- a bit of a number that is shifted to the right
shifted : (n k i : ℕ) → bit_at (n / 2 ^ k) i ≡ bit_at n (k + i)
shifted n k i = ap (λ (m : ℕ). m % 2) (div-div-eq-div-mul n (2 ^ k) (2 ^ i) ∙ ap (λ (m : ℕ). n / m) (sym (pow-add 2 k i)))

-- the bits of a rank
pub rank_bits : (n rank f : ℕ) → f < 8 → bit_at (bit_and (n / 2 ^ (8 * rank)) 255) f ≡ bit_at n (8 * rank + f)
rank_bits n rank f l =
    let from_rank = n / 2 ^ (8 * rank) in
    let ones : bit_at 255 f ≡ 1 = bit_at_ones 8 f l in
    let is = bit_at_and from_rank 255 f in
    let same : min (bit_at from_rank f) (bit_at 255 f) ≡ bit_at from_rank f = omega (arith, ones, bit_at-lt from_rank f) in
    is ∙ same ∙ shifted n (8 * rank) f

-- of two bits that are 0 together, both are
neither : (a b : ℕ) → max a b ≡ 0 → (a ≡ 0) × (b ≡ 0)
neither a b e = (omega (arith, e), omega (arith, e))

-- of two bits of which one is 1, the second is if the first is not
other : (a b : ℕ) → max a b ≡ 1 → a < 2 → a ≢ 1 → b ≡ 1
other a b e l n = omega (arith, e, n)

-- a square that is not occupied is empty
pub none_there : (s : Sets) (u : ℕ) → bit_at (bit_or s.white s.black) u ≡ 0 → cell_in s u ≡ None
none_there s u e =
    let w = neither (bit_at s.white u) (bit_at s.black u) (sym (bit_at_or s.white s.black u) ∙ e) in
    rw (w.0, w.1) refl

-- the piece on an occupied square
pub piece_there : (s : Sets) (u : ℕ) → bit_at (bit_or s.white s.black) u ≡ 1 → cell_in s u ≡ Some (piece_in s u)
piece_there s u occupied =
    let both = sym (bit_at_or s.white s.black u) ∙ occupied in
    elim (cases_eq (bit_at s.white u) 1) [
      | inl white ↦ rw white refl
      | inr ne ↦ (let black = other (bit_at s.white u) (bit_at s.black u) both (bit_at-lt s.white u) ne in
          let not_white : bit_at s.white u ≡ 0 = omega (arith, bit_at-lt s.white u, ne) in
          rw (not_white, black) refl)
    ]
