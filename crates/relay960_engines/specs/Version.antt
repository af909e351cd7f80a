-- The line of the program's version.
use Rattle.std.specs.Prelude.{ℕ, List, [], ◌∷◌, codes}
use Rattle.std.specs.List.{concat}

-- the program's name, the version and a line feed
abbrev pub version_line : List ℕ → List ℕ
version_line version = concat (codes "relay960 " ∷ version ∷ codes "\n" ∷ [])
