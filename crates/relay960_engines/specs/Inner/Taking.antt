-- The effect of a stream's bytes on a run that keeps the first KEPT bytes of a line.
use Rattle.std.specs.Prelude.{ℕ, ◌≡◌, ◌≢◌, ◌+◌, ◌-◌, ◌<◌, ◌≤◌, ◌⊎◌, ◌==◌, nat_lt, List, [], ◌∷◌, ◌++◌, length, take, slice_index, cond, None}
use Rattle.std.specs.Io.KnownBytes.{Consumes, IsAtEnd}
use Rattle.relay960_engines.specs.declared.kept_line.TheConstants.{KEPT}
use Rattle.relay960_engines.specs.declared.bounds.Bounds.{Bounds}
use Rattle.relay960_engines.specs.declared.fault.RunFault.{RunFault}
use Rattle.relay960_engines.specs.declared.fault.RunFault.TheVariants.{Read, Write, TooLong, OutOfMemory, BadStart}
use Rattle.relay960_engines.specs.declared.progress.Progress.{Progress}
use Rattle.relay960_engines.specs.Lines.{Giving, Between, last_line}
use Rattle.relay960_engines.specs.Runs.{Known, one_read}
use Rattle.relay960_engines.specs.Inner.Sending.{Output, settled, SentAnswers, SentPart}

-- ---- Lines of which only the first KEPT bytes are kept.

-- what is kept of a line with one more byte
abbrev pub kept_with : List ℕ → ℕ → List ℕ
kept_with line b = cond (nat_lt (length line) KEPT) (line ++ b ∷ []) line

-- what is kept of the lines that end with a line feed within the bytes; the first of them begins with what was kept before
unfoldable pub kept_lines : List ℕ → List ℕ → List (List ℕ)
kept_lines line [] = []
kept_lines line (b ∷ bs) = cond (b == 10) (line ∷ kept_lines [] bs) (kept_lines (kept_with line b) bs)

-- what is kept of the piece after the last line feed
unfoldable pub kept_piece : List ℕ → List ℕ → List ℕ
kept_piece line [] = line
kept_piece line (b ∷ bs) = cond (b == 10) (kept_piece [] bs) (kept_piece (kept_with line b) bs)

-- no line feed is among the bytes
abbrev pub IsPlain : List ℕ → Type 0
IsPlain bytes = (k : ℕ) → k < length bytes → slice_index bytes k ≢ 10

-- what is kept of a line after these bytes are added
abbrev pub kept_behind : List ℕ → List ℕ → List ℕ
kept_behind line bytes = line ++ take (KEPT - length line) bytes

-- ---- Bytes that were taken.

-- no bound is exceeded, and a line that was begun may be answered
pub record Within (bounds : Bounds) (p : Progress) : Type 0 where
  pub answered_within : p.answered ≤ bounds.lines
  pub taken_within : p.taken ≤ bounds.bytes
  pub room : 0 < length p.line → p.answered < bounds.lines

-- the bytes were taken: their lines were answered, the answers are written or due, and the progress went from p to q
pub record TookBytes {S : Type 0} (gives : Giving S) (s t : S) (p q : Progress) (input : List ℕ) (old new : Output) : Type 0 where
  pub sent : SentAnswers (Between gives s t) (kept_lines p.line input) old new
  pub piece : q.line ≡ kept_piece p.line input
  pub count : q.answered ≡ p.answered + length (kept_lines p.line input)
  pub total : q.taken ≡ p.taken + length input

-- all bytes that the reader gave were taken, and nothing is due
pub record TakenAll {S : Type 0} (gives : Giving S) (s t : S) (p q : Progress) (old_input new_input old new : Known) : Type 0 where
  pub input : List ℕ
  pub read : Consumes old_input new_input input
  pub at_end : IsAtEnd new_input
  pub took : TookBytes gives s t p q input (settled old) (settled new)

-- ---- Bytes at which a run has stopped.

-- the counts that a run from progress p has after these bytes exceed no bound
pub record IsWithin (bounds : Bounds) (p : Progress) (seen : List ℕ) : Type 0 where
  pub lines_within : p.answered + length (kept_lines p.line seen) ≤ bounds.lines
  pub bytes_within : p.taken + length seen ≤ bounds.bytes

-- they reach a bound
abbrev pub IsAtBound : Bounds → Progress → List ℕ → Type 0
IsAtBound bounds p seen = (bounds.lines ≤ p.answered + length (kept_lines p.line seen)) ⊎ (bounds.bytes ≤ p.taken + length seen)

-- the answers to all lines but the last are written or due, and there was no memory for the answer to the last
pub record Halted {S : Type 0} (gives : Giving S) (s t : S) (lines : List (List ℕ)) (old new : Output) : Type 0 where
  pub before : List (List ℕ)
  pub stopped : List ℕ
  pub split : lines ≡ before ++ stopped ∷ []
  pub mid : S
  pub sent : SentAnswers (Between gives s mid) before old new
  pub unanswered : gives mid stopped None t

-- what was due and the lines' answers were not written completely, because a write failed; or there was no memory for the last of them
abbrev pub Unwritten : {S : Type 0} → Giving S → S → S → List (List ℕ) → Output → Output → RunFault → Type 0
Unwritten gives s t lines old new Write = SentPart (Between gives s t) lines old new
Unwritten gives s t lines old new OutOfMemory = Halted gives s t lines old new
Unwritten gives s t lines old new Read = ⊥
Unwritten gives s t lines old new TooLong = ⊥
Unwritten gives s t lines old new BadStart = ⊥

-- what a run that stops with a fault did with the bytes that it saw
abbrev pub StopsBy : {S : Type 0} → Giving S → S → S → Progress → Bounds → List ℕ → List ℕ → Output → Output → RunFault → Type 0
StopsBy gives s t p bounds seen unseen old new Write = SentPart (Between gives s t) (kept_lines p.line seen) old new
StopsBy gives s t p bounds seen unseen old new TooLong =
    (0 < length unseen) × SentAnswers (Between gives s t) (kept_lines p.line seen) old new × IsAtBound bounds p seen
StopsBy gives s t p bounds seen unseen old new OutOfMemory =
    (kept_piece p.line seen ≡ []) × Halted gives s t (kept_lines p.line seen) old new
StopsBy gives s t p bounds seen unseen old new Read = ⊥
StopsBy gives s t p bounds seen unseen old new BadStart = ⊥

-- from progress p, a run stopped with a fault within the bytes, and no bound was exceeded
pub record StopsIn {S : Type 0} (gives : Giving S) (s t : S) (p : Progress) (bounds : Bounds) (input : List ℕ) (old new : Output) (fault : RunFault) : Type 0 where
  pub seen : List ℕ
  pub unseen : List ℕ
  pub split : input ≡ seen ++ unseen
  pub within : IsWithin bounds p seen
  pub stop : StopsBy gives s t p bounds seen unseen old new fault

-- the lines of these bytes, including the line that they leave open, exceed no bound
abbrev pub LastFits : Bounds → Progress → List ℕ → Type 0
LastFits bounds p seen =
    p.answered + length (kept_lines p.line seen) + length (last_line (kept_piece p.line seen)) ≤ bounds.lines

-- the same within the bytes that the reader gave, of which at most those of one read are unseen; or a read failed after them
pub record StopsReading {S : Type 0} (gives : Giving S) (s t : S) (p : Progress) (bounds : Bounds) (old_input new_input old new : Known) (fault : RunFault) : Type 0 where
  pub input : List ℕ
  pub read : Consumes old_input new_input input
  pub stop : ((stops : StopsIn gives s t p bounds input (settled old) (settled new) fault) × (length stops.unseen ≤ one_read))
      ⊎ ((fault ≡ Read) × IsWithin bounds p input × LastFits bounds p input
      × SentAnswers (Between gives s t) (kept_lines p.line input) (settled old) (settled new))
