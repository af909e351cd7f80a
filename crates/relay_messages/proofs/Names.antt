-- The test of a board's name.
use Rattle.std.proofs.Common.{◌≡◌, ℕ, ◌↔◌, List, Bool, true, false, cond, Option, Some, None, IsSome, IfSome}
use Rattle.std.proofs.Common.{refl, sym, ap, ◌∙◌, rules}
use Rattle.relay_core.specs.Name.{IsName, is_name}
use Rattle.relay_messages.specs.Fields.{name_in}

no_name : (text : List ℕ) (test : Bool) → (test ≡ true → ⊥) → None ≡ cond test (Some text) None
no_name text true never = absurd (never refl)
no_name text false never = refl

nothing : IsSome {T = List ℕ} None → ⊥
nothing h = cc

-- anything that gives a text's name exactly if it is one gives what the test gives
pub name_by_test : (text : List ℕ) (found : Option (List ℕ)) → (IsSome found ↔ IsName text) → IfSome found (λ name. name ≡ text)
    → found ≡ name_in text
name_by_test text (Some name) some same = ap Some same ∙ sym (ap (λ test. cond test (Some text) None) (some.0 (search rules)))
name_by_test text None some same = no_name text (is_name text) (λ h. nothing (some.1 h))
