-- Which fields a name has, and that its test decides.
use Rattle.std.proofs.Common.{◌≡◌, ◌↔◌, ◌-◌, ◌≤◌, ℕ, List, ◌++◌, length, take, drop, replicate, Bool, true, false, nat_eq, eqb-true, ap, sym, ◌∙◌, refl}
use Rattle.std.proofs.Math.Seq.{take-append_seam}
use Rattle.std.proofs.lemmas.List.{drop-replicate}
use Rattle.relay_core.specs.Inner.NameFields.{is_short}
use Rattle.relay_core.specs.Inner.Tag.{tag_of}
use Rattle.relay_core.specs.Name.{IsName, filled, same_name}
use Rattle.relay_core.proofs.lemmas.Names.{is_same_name, same_name_is}

-- two names compare equal exactly if they are the same
pub same_name_decides : (a b : List ℕ) → IsName a → IsName b → (same_name a b ≡ true) ↔ (a ≡ b)
same_name_decides a b _ _ = (same_name_is a b, is_same_name a b)

-- a text copied over the front of 32 zeros is padded
pub zeros_behind : (text : List ℕ) → text ++ drop (length text) (replicate {A = ℕ} 32 0) ≡ filled text
zeros_behind text = ap (λ zeros. text ++ zeros) (drop-replicate (length text) 32 0)

-- the fields that a name has
pub fields_of_name : (text : List ℕ) → IsName text
    → (length text ≤ 32) × IsName (take (length text) (filled text)) × (filled text ≡ filled (take (length text) (filled text)))
fields_of_name text name = rw (take-append_seam text (replicate {A = ℕ} (32 - length text) 0)) (is_short text name, name, refl)

-- names of different tags differ
pub apart : (a b : List ℕ) → (tag_of a ≡ tag_of b → ⊥) → same_name a b ≡ false
apart a b differ = by (same_name a b) refl
  where
    by : (s : Bool) → same_name a b ≡ s → s ≡ false
    by false e = refl
    by true e = absurd (differ (ap tag_of (same_name_is a b e)))

-- the compare of different tags tells that the names differ
pub told_apart : (a b : List ℕ) (x y : ℕ) → x ≡ tag_of a → y ≡ tag_of b → (x ≡ y → ⊥) → nat_eq x y ≡ same_name a b
told_apart a b x y p q differ = by (nat_eq x y) refl
  where
    by : (s : Bool) → nat_eq x y ≡ s → s ≡ same_name a b
    by false e = sym (apart a b (λ same. differ (p ∙ same ∙ sym q)))
    by true e = absurd (differ (eqb-true x y e))
