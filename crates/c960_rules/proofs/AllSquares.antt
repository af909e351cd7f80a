-- Tests over all squares, and what they say of each.
use Rattle.std.proofs.Common.{◌≡◌, ℕ, zero, suc, ◌+◌, ◌<◌, ◌≤◌, Bool, true, refl, arith}
use Rattle.std.proofs.lemmas.Grind.{common_steps}
use Rattle.std.specs.List.{list_any, list_all, range_with_len}
use Rattle.c960_board.proofs.lemmas.Ranges.{each_below, some_range, passes_from}
use Rattle.c960_rules.specs.Lines.{squares}

-- a test that every square passes
pub every_square : (p : ℕ → Bool) → list_all p squares ≡ true → (u : ℕ) → u < 64 → p u ≡ true
every_square p h u l = each_below p 64 h u l

-- a test that each number of a range passes
all_range_from : (p : ℕ → Bool) (a n : ℕ) → ((u : ℕ) → a ≤ u → u < a + n → p u ≡ true)
    → list_all p (range_with_len a n) ≡ true
all_range_from p a zero h = refl
all_range_from p a (suc n) h =
    let here : p a ≡ true = h a (omega arith) (omega arith) in
    let rest = all_range_from p (a + 1) n (λ u l m. h u (omega arith) (omega arith)) in
    grind (arith, common_steps)

-- and the converse
pub every_square_from : (p : ℕ → Bool) → ((u : ℕ) → u < 64 → p u ≡ true) → list_all p squares ≡ true
every_square_from p h = all_range_from p 0 64 (λ u l m. h u (omega arith))

-- a square that passes a test
pub found_square : (p : ℕ → Bool) → list_any p squares ≡ true → (u : ℕ) × (u < 64) × (p u ≡ true)
found_square p h = let r = passes_from p 0 64 h in (r.number, omega arith, r.passes)

-- and the converse
pub some_square : (p : ℕ → Bool) (u : ℕ) → u < 64 → p u ≡ true → list_any p squares ≡ true
some_square p u l e = some_range p 0 64 (record { number = u; from = omega arith; below = omega arith; passes = e })
