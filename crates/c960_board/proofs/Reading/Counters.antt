-- The fields of the two counters determine their numbers.
use Rattle.std.proofs.Common.{◌≡◌, ℕ, List, sym, ◌∙◌, arith, decimal}
use Rattle.std.proofs.lemmas.Fmt.{decimal_injective}
use Rattle.c960_board.specs.Fen.Counters.{AreCounterFields}

-- no move has the number 0
pub number_is_not_zero : (half last : List ℕ) (h n k : ℕ) → k ≡ 0 → last ≡ decimal k →
    AreCounterFields half last h n → ⊥
number_is_not_zero half last h n k z e c =
    let low = c.counters.numbered in
    let high = c.counters.bounded in
    let same = decimal_injective k n (omega arith) (omega arith) (sym e ∙ c.number) in
    omega arith

-- two fields belong to one pair of numbers
pub same_counters : (half last : List ℕ) (h n i m : ℕ) → AreCounterFields half last h n →
    AreCounterFields half last i m → (h ≡ i) × (n ≡ m)
same_counters half last h n i m x y =
    let a = x.counters.half_moves in
    let b = y.counters.half_moves in
    let c = x.counters.bounded in
    let d = y.counters.bounded in (
      decimal_injective h i (omega arith) (omega arith) (sym x.half_moves ∙ y.half_moves),
      decimal_injective n m (omega arith) (omega arith) (sym x.number ∙ y.number),
    )
