-- The six fields of a text, separated by single spaces.
use Rattle.std.specs.Prelude.{ℕ, ◌≡◌, ◌≢◌, ◌<◌, List, ◌∷◌, ◌++◌, length, slice_index}

pub record Six : Type 0 where
  pub placement : List ℕ
  pub turn : List ℕ
  pub rights : List ℕ
  pub target : List ℕ
  pub half_moves : List ℕ
  pub number : List ℕ

-- the byte does not occur in the text
abbrev pub Lacks : ℕ → List ℕ → Type 0
Lacks b text = (k : ℕ) → k < length text → slice_index text k ≢ b

-- a field is not empty and has no space in it
pub record IsField (text : List ℕ) : Type 0 where
  pub some : 0 < length text
  pub spaceless : Lacks 32 text

-- the fields with one space between any two
abbrev pub joined : Six → List ℕ
joined f =
    f.placement ++ 32 ∷ (f.turn ++ 32 ∷ (f.rights ++ 32 ∷ (f.target ++ 32 ∷ (f.half_moves ++ 32 ∷ f.number))))

-- the text is these six fields
pub record IsSix (f : Six) (text : List ℕ) : Type 0 where
  pub whole : text ≡ joined f
  pub placement : IsField f.placement
  pub turn : IsField f.turn
  pub rights : IsField f.rights
  pub target : IsField f.target
  pub half_moves : IsField f.half_moves
  pub number : IsField f.number
