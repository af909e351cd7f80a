-- Whether a connection has opened any board.
use Rattle.std.proofs.Common.{◌≡◌, ◌≢◌, ◌↔◌, Bool, true, false, not, ◌||◌, ℕ, List, [], ◌∷◌, refl, ap}
use Rattle.relay_hall.specs.Talk.{are_none}

pub owns_some : (opened : Bool) (boards : List (List ℕ)) (owns : Bool) → (opened ≡ true) ↔ (boards ≢ []) → (opened ≡ false) ↔ (boards ≡ [])
    → (opened || owns) ≡ (not (are_none boards) || owns)
owns_some opened [] owns some none = ap (λ (b : Bool). b || owns) (none.1 refl)
owns_some opened (board ∷ boards) owns some none = ap (λ (b : Bool). b || owns) (some.1 (λ e. cc e))
