-- A text has six fields in one way.
use Rattle.std.proofs.Common.{◌≡◌, ℕ, List, ◌∷◌, ◌++◌, refl, sym, subst, ◌∙◌}
use Rattle.c960_board.specs.Fen.Fields.{Six, IsField, IsSix}
use Rattle.c960_board.specs.Fen.Reading.{IsFront}
use Rattle.c960_board.proofs.Reading.Cuts.{same_cut}

-- a first field and its rest are the only ones
pub next : (r a x b y : List ℕ) → r ≡ b ++ 32 ∷ y → IsField b → IsFront r a x → (a ≡ b) × (x ≡ y)
next r a x b y e field front = same_cut 32 a b x y front.field.spaceless field.spaceless (sym front.whole ∙ e)

-- the text from the half-move counter on
abbrev from_half_moves : Six → List ℕ
from_half_moves f = f.half_moves ++ 32 ∷ f.number

-- the text from the target on
abbrev from_target : Six → List ℕ
from_target f = f.target ++ 32 ∷ from_half_moves f

-- the text from the rights on
abbrev from_rights : Six → List ℕ
from_rights f = f.rights ++ 32 ∷ from_target f

-- the text from the turn on
abbrev from_turn : Six → List ℕ
from_turn f = f.turn ++ 32 ∷ from_rights f

-- the first field is the placement
pub placement_is : (text a r : List ℕ) (f : Six) → IsFront text a r → IsSix f text →
    (a ≡ f.placement) × (r ≡ from_turn f)
placement_is text a r f p six = next text a r f.placement (from_turn f) six.whole six.placement p

-- the second field is the turn
pub turn_is : (text a r b s : List ℕ) (f : Six) → IsFront text a r → IsFront r b s → IsSix f text →
    (b ≡ f.turn) × (s ≡ from_rights f)
turn_is text a r b s f p q six = next r b s f.turn (from_rights f) (placement_is text a r f p six).1 six.turn q

-- the third field is the rights
pub rights_are : (text a r b s d t : List ℕ) (f : Six) → IsFront text a r → IsFront r b s → IsFront s d t →
    IsSix f text →
    (d ≡ f.rights) × (t ≡ from_target f)
rights_are text a r b s d t f p q o six =
    next s d t f.rights (from_target f) (turn_is text a r b s f p q six).1 six.rights o

-- the fourth field is the target
pub target_is : (text a r b s d t g u : List ℕ) (f : Six) → IsFront text a r → IsFront r b s → IsFront s d t →
    IsFront t g u → IsSix f text → (g ≡ f.target) × (u ≡ from_half_moves f)
target_is text a r b s d t g u f p q o n six =
    next t g u f.target (from_half_moves f) (rights_are text a r b s d t f p q o six).1 six.target n

-- the last two fields are the counters
pub counters_are : (text a r b s d t g u h v : List ℕ) (f : Six) → IsFront text a r → IsFront r b s → IsFront s d t →
    IsFront t g u → IsFront u h v → IsSix f text → (h ≡ f.half_moves) × (v ≡ f.number)
counters_are text a r b s d t g u h v f p q o n m six =
    next u h v f.half_moves f.number (target_is text a r b s d t g u f p q o n six).1 six.half_moves m

-- the text does not begin with a field and a space
abbrev pub HasNoFront : List ℕ → Type 0
HasNoFront r = (a x : List ℕ) → IsFront r a x → ⊥

-- a text with no first field is not six fields
pub no_placement : (text : List ℕ) → HasNoFront text → (f : Six) → IsSix f text → ⊥
no_placement text none f six = none f.placement (from_turn f) (record { whole = six.whole; field = six.placement })

-- a text with no second field is not six fields
pub no_turn : (text a r : List ℕ) → IsFront text a r → HasNoFront r → (f : Six) → IsSix f text → ⊥
no_turn text a r p none f six =
    none f.turn (from_rights f) (record { whole = (placement_is text a r f p six).1; field = six.turn })

-- a text with no third field is not six fields
pub no_rights : (text a r b s : List ℕ) → IsFront text a r → IsFront r b s → HasNoFront s → (f : Six) → IsSix f text → ⊥
no_rights text a r b s p q none f six =
    none f.rights (from_target f) (record { whole = (turn_is text a r b s f p q six).1; field = six.rights })

-- a text with no fourth field is not six fields
pub no_target : (text a r b s d t : List ℕ) → IsFront text a r → IsFront r b s → IsFront s d t → HasNoFront t →
    (f : Six) →
    IsSix f text → ⊥
no_target text a r b s d t p q o none f six =
    none f.target (from_half_moves f)
    (record { whole = (rights_are text a r b s d t f p q o six).1; field = six.target })

-- a text with no fifth field is not six fields
pub no_half_moves : (text a r b s d t g u : List ℕ) → IsFront text a r → IsFront r b s → IsFront s d t → IsFront t g u →
    HasNoFront u → (f : Six) → IsSix f text → ⊥
no_half_moves text a r b s d t g u p q o n none f six =
    none f.half_moves f.number
    (record { whole = (target_is text a r b s d t g u f p q o n six).1; field = six.half_moves })

-- a text whose end is not a field is not six fields
pub no_number : (text a r b s d t g u h v : List ℕ) → IsFront text a r → IsFront r b s → IsFront s d t → IsFront t g u →
    IsFront u h v → ¬ (IsField v) → (f : Six) → IsSix f text → ⊥
no_number text a r b s d t g u h v p q o n m none f six =
    none (subst IsField (sym (counters_are text a r b s d t g u h v f p q o n m six).1) six.number)

-- six fields are equal if each one is
six_is : (f g : Six) → f.placement ≡ g.placement → f.turn ≡ g.turn → f.rights ≡ g.rights → f.target ≡ g.target →
    f.half_moves ≡ g.half_moves → f.number ≡ g.number → f ≡ g
six_is f g a b c d e h = rw (a, b, c, d, e, h) refl

-- a text is six fields in one way
pub same_six : (f g : Six) (text : List ℕ) → IsSix f text → IsSix g text → f ≡ g
same_six f g text x y =
    let p : IsFront text f.placement (from_turn f) = record { whole = x.whole; field = x.placement } in
    let q : IsFront (from_turn f) f.turn (from_rights f) = record { whole = refl; field = x.turn } in
    let o : IsFront (from_rights f) f.rights (from_target f) = record { whole = refl; field = x.rights } in
    let n : IsFront (from_target f) f.target (from_half_moves f) = record { whole = refl; field = x.target } in
    let m : IsFront (from_half_moves f) f.half_moves f.number = record { whole = refl; field = x.half_moves } in
    let e1 = placement_is text _ _ g p y in
    let e2 = turn_is text _ _ _ _ g p q y in
    let e3 = rights_are text _ _ _ _ _ _ g p q o y in
    let e4 = target_is text _ _ _ _ _ _ _ _ g p q o n y in
    let e5 = counters_are text _ _ _ _ _ _ _ _ _ _ g p q o n m y in
    six_is f g e1.0 e2.0 e3.0 e4.0 e5.0 e5.1
