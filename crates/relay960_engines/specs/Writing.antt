-- What a writer holds after a whole line, or after a part of one.
use Rattle.std.specs.Prelude.{ℕ, List, [], ◌∷◌, ◌++◌, take, Option, codes, decimal}
use Rattle.std.specs.List.{concat}
use Rattle.std.specs.Io.KnownBytes.{Appends}

-- known bytes grow by a prefix of the text
abbrev pub AppendsPart : Option (List ℕ) → Option (List ℕ) → List ℕ → Type 0
AppendsPart old new text = (n : ℕ) × Appends old new (take n text)

-- the text and a line feed
abbrev pub line : List ℕ → List ℕ
line text = text ++ 10 ∷ []

-- the line of a number and a name after a word, `fault 1 Length` and the like
abbrev pub numbered_line : List ℕ → ℕ → List ℕ → List ℕ
numbered_line word number name = concat (word ∷ decimal number ∷ codes " " ∷ name ∷ codes "\n" ∷ [])
