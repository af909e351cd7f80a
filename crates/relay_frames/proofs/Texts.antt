-- Whether bytes are a text.
use Rattle.std.proofs.Common.{◌≡◌, ℕ, Bool, true, false, List, refl}
use Rattle.std.specs.Str.{IsUtf8, is_utf8}
use Rattle.std.proofs.lemmas.Str.{IsUtf8-from_is_utf8}

not_true : (b : Bool) → (b ≡ true → ⊥) → b ≡ false
not_true true h = absurd (h refl)
not_true false h = refl

pub is_utf8-false : (bs : List ℕ) → ¬ (IsUtf8 bs) → is_utf8 bs ≡ false
is_utf8-false bs h = not_true (is_utf8 bs) (λ e. h (IsUtf8-from_is_utf8 bs e))
