-- What happens to texts that are due to a writer before they are written.
use Rattle.std.specs.Prelude.{ℕ, ◌≡◌, List, [], ◌++◌}
use Rattle.std.specs.Io.KnownBytes.{Appends}
use Rattle.relay960_engines.specs.Runs.{Answered, Answering, Known}
use Rattle.relay960_engines.specs.Writing.{AppendsPart}

-- what a writer holds, and what is due to it
pub record Output : Type 0 where
  pub held : Known
  pub due : List ℕ

abbrev pub output_of : Known → List ℕ → Output
output_of held due = record { held = held; due = due }

-- nothing is due
abbrev pub settled : Known → Output
settled held = output_of held []

-- the text was added after what was due, of which a front part was written
pub record Sends (a b : Output) (text : List ℕ) : Type 0 where
  pub front : List ℕ
  pub written : Appends a.held b.held front
  pub split : a.due ++ text ≡ front ++ b.due

-- the lines' answers are written or due
abbrev pub SentAnswers : Answering → List (List ℕ) → Output → Output → Type 0
SentAnswers answering lines a b = Answered (Sends a b) answering lines

-- of what was due, followed by the lines' answers, a prefix was written
pub record SentPart (answering : Answering) (lines : List (List ℕ)) (a b : Output) : Type 0 where
  pub answers : List ℕ
  pub given : answering lines answers
  pub written : AppendsPart a.held b.held (a.due ++ answers)
