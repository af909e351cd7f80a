-- The lines of a stream of bytes, and the answers to them.
use Rattle.std.specs.Prelude.{ℕ, ◌≡◌, ◌==◌, List, [], ◌∷◌, ◌++◌, cond, Option, Some, None}

-- ---- Bytes to lines.

-- the lines that end with a line feed within the bytes; the first of them begins with what was begun before
unfoldable pub whole_lines : List ℕ → List ℕ → List (List ℕ)
whole_lines begun [] = []
whole_lines begun (b ∷ bs) = cond (b == 10) (begun ∷ whole_lines [] bs) (whole_lines (begun ++ b ∷ []) bs)

-- the piece after the last line feed
unfoldable pub last_piece : List ℕ → List ℕ → List ℕ
last_piece begun [] = begun
last_piece begun (b ∷ bs) = cond (b == 10) (last_piece [] bs) (last_piece (begun ++ b ∷ []) bs)

-- a last piece without a line feed is a line if it is not empty
abbrev pub last_line : List ℕ → List (List ℕ)
last_line [] = []
last_line (b ∷ bs) = (b ∷ bs) ∷ []

unfoldable pub lines_of : List ℕ → List (List ℕ)
lines_of bytes = whole_lines [] bytes ++ last_line (last_piece [] bytes)

-- ---- Lines to answers, one after another.

-- What an answerer gives: in a state a line is answered by these bytes, or by none if there was no memory for them, which leads to
-- a state.
abbrev pub Giving : Type 0 → Type 1
Giving S = S → List ℕ → Option (List ℕ) → S → Type 0

-- from state s the lines are answered one after another, by these bytes in all, which leads to state t
unfoldable pub Answers : {S : Type 0} → Giving S → S → List (List ℕ) → List ℕ → S → Type 0
Answers gives s [] bytes t = (bytes ≡ []) × (t ≡ s)
Answers {S} gives s (l ∷ ls) bytes t =
    (answer : List ℕ) × (mid : S) × (rest : List ℕ) × gives s l (Some answer) mid × (bytes ≡ answer ++ rest) × Answers gives mid ls rest t

-- which bytes answer which lines between two states
abbrev pub Between : {S : Type 0} → Giving S → S → S → List (List ℕ) → List ℕ → Type 0
Between gives s t lines bytes = Answers gives s lines bytes t

-- which bytes answer some lines from state s, when there was no memory for the answer to the line after them, which led to state t
abbrev pub Before : {S : Type 0} → Giving S → S → S → List (List ℕ) → List ℕ → List ℕ → Type 0
Before {S} gives s t lines bytes l = (mid : S) × Answers gives s lines bytes mid × gives mid l None t
