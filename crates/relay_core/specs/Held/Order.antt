-- The entries of a map in any order, brought into an order of their keys that only clauses see.
use Rattle.std.specs.Prelude.{ℕ, ◌≡◌, nat_eq, is_some, List, [], ◌∷◌, Option, Some, None}
use Rattle.std.specs.List.{IsDistinct, list_any}
use Rattle.std.specs.Map.{lookup}

-- the entry of a spectator in front of others, if it has a value
abbrev pub in_front : {V : Type 0} → ℕ → Option V → List (ℕ × V) → List (ℕ × V)
in_front who None rest = rest
in_front who (Some v) rest = (who, v) ∷ rest

-- the entries in the order of these spectators
abbrev pub in_order : {V : Type 0} → List ℕ → List (ℕ × V) → List (ℕ × V)
in_order [] entries = []
in_order (who ∷ order) entries = in_front who (lookup (nat_eq who) entries) (in_order order entries)

-- each spectator stands once in the order, and exactly those with an entry stand there
pub record IsOrderOf {V : Type 0} (order : List ℕ) (entries : List (ℕ × V)) : Type 0 where
  pub once : IsDistinct nat_eq order
  pub same : (who : ℕ) → list_any (nat_eq who) order ≡ is_some (lookup (nat_eq who) entries)
