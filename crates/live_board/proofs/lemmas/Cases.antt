-- What holds for a choice by a test, and what a failed test of equality says.
use Rattle.std.proofs.Common.{◌≡◌, ◌≢◌, ℕ, Bool, true, false, sym, refl, ◌∙◌, cond, eqb, eq-eqb, true≢false}

pub pick : {A : Type 0} (P : A → Type 0) (b : Bool) (x y : A) → (b ≡ true → P x) → (b ≡ false → P y) → P (cond b x y)
pick P true x y a h = a refl
pick P false x y a h = h refl

pub not_there : (word k : ℕ) → eqb k word ≡ false → k ≢ word
not_there word k e same = true≢false (sym (eq-eqb k word same) ∙ e)
