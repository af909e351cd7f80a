-- Tests, and tests made of tests.
use Rattle.std.proofs.Common.{◌≡◌, ℕ, Bool, true, false, cond, Option, Some, None, refl, arith}
use Rattle.std.specs.Prelude.{◌==◌, is_none}
use Rattle.std.specs.Option.{is_some}

-- a bit is 1 if its test passes
pub one_in : (b : Bool) → (cond b 1 0 == 1) ≡ b
one_in true = refl
one_in false = refl

-- so a test passes if its bit is 1
pub one_true : (b : Bool) → ◌≡◌ {A = ℕ} (cond b 1 0) 1 → b ≡ true
one_true true h = refl
one_true false h = absurd (omega (arith, h))

-- and fails if it is 0
pub zero_false : (b : Bool) → ◌≡◌ {A = ℕ} (cond b 1 0) 0 → b ≡ false
zero_false true h = absurd (omega (arith, h))
zero_false false h = refl

-- an option is empty, from its test
pub none_is : {X : Type 0} (o : Option X) → is_none o ≡ true → o ≡ None
none_is None h = refl
none_is (Some x) h = cc

-- from the opposite test
pub none_of : {X : Type 0} (o : Option X) → is_some o ≡ false → o ≡ None
none_of None h = refl
none_of (Some x) h = cc

-- and to its test
pub is_none_of : {X : Type 0} (o : Option X) → o ≡ None → is_none o ≡ true
is_none_of None h = refl
is_none_of (Some x) h = cc

-- a test that is made only if another passes: both pass
pub so_parts : (p q : Bool) → elim p as (λ _. Bool) [ true ↦ q | false ↦ false ] ≡ true → (p ≡ true) × (q ≡ true)
so_parts true q h = (refl, h)
so_parts false q h = cc

-- and if both pass, it passes
pub then_so : (p q : Bool) → p ≡ true → q ≡ true → elim p as (λ _. Bool) [ true ↦ q | false ↦ false ] ≡ true
then_so true q h e = e
then_so false q h e = cc

-- a test that must pass if another passes
pub implied_tells : (p q : Bool) → elim p as (λ _. Bool) [ true ↦ q | false ↦ true ] ≡ true → p ≡ true → q ≡ true
implied_tells true q h e = h
implied_tells false q h e = cc

-- and if q holds whenever p does, the test passes
pub implied_from : (p q : Bool) → (p ≡ true → q ≡ true) → elim p as (λ _. Bool) [ true ↦ q | false ↦ true ] ≡ true
implied_from true q h = h refl
implied_from false q h = refl
