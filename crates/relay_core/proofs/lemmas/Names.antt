-- Names that compare equal are the same.
use Rattle.std.proofs.Common.{◌≡◌, ℕ, List, length, true, subst, refl, eqb, eq-eqb}
use Rattle.std.proofs.lemmas.Cmp.{nat_list_eq_equiv}
use Rattle.std.proofs.lemmas.Bool.{and_from}
use Rattle.relay_core.specs.Name.{filled, same_name}
pub use Rattle.relay_core.specs.Inner.NameFields.{same_name_is}

pub is_same_name : (a b : List ℕ) → a ≡ b → same_name a b ≡ true
is_same_name a b e =
    subst (λ c. same_name a c ≡ true) e (and_from (eqb (length a) (length a)) _ (eq-eqb (length a) (length a) refl)
    (nat_list_eq_equiv.refl (filled a)))
