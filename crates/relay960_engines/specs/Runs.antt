-- What a run over lines does: from what the reader holds and the writer was given before it, to what they are after it. It is said of
-- any relation that says which bytes answer which lines; each engine has its own.
use Rattle.std.specs.Prelude.{ℕ, ◌≡◌, ◌<◌, ◌≤◌, ◌⊎◌, List, [], ◌∷◌, ◌++◌, length, Option}
use Rattle.std.specs.Io.KnownBytes.{Appends, Consumes, IsAtEnd, Keeps}
use Rattle.relay960_engines.specs.declared.bounds.Bounds.{Bounds}
use Rattle.relay960_engines.specs.declared.fault.RunFault.{RunFault}
use Rattle.relay960_engines.specs.declared.fault.RunFault.TheVariants.{Read, Write, TooLong, OutOfMemory, BadStart}
use Rattle.relay960_engines.specs.Lines.{lines_of, last_piece, whole_lines}
use Rattle.relay960_engines.specs.Writing.{AppendsPart}

-- what a reader still holds and what a writer holds, if they show it
abbrev pub Known : Type 0
Known = Option (List ℕ)

-- which bytes answer which lines
abbrev pub Answering : Type 1
Answering = List (List ℕ) → List ℕ → Type 0

-- which bytes answer some lines, when there was no memory for the answer to the line after them
abbrev pub Halting : Type 1
Halting = List (List ℕ) → List ℕ → List ℕ → Type 0

-- the lines have answers, of which W is true
pub record Answered (W : List ℕ → Type 0) (answering : Answering) (lines : List (List ℕ)) : Type 0 where
  pub answers : List ℕ
  pub given : answering lines answers
  pub written : W answers

-- the lines' answers were written
abbrev pub Wrote : Answering → List (List ℕ) → Known → Known → Type 0
Wrote answering lines old new = Answered (Appends old new) answering lines

-- a prefix of the lines' answers was written
abbrev pub WrotePart : Answering → List (List ℕ) → Known → Known → Type 0
WrotePart answering lines old new = Answered (AppendsPart old new) answering lines

-- the input was read to its end, its lines were answered, and there are n of them, within both bounds
pub record Done (answering : Answering) (bounds : Bounds) (old_input new_input old_output new_output : Known) (n : ℕ) : Type 0 where
  pub input : List ℕ
  pub read : Consumes old_input new_input input
  pub at_end : IsAtEnd new_input
  pub wrote : Wrote answering (lines_of input) old_output new_output
  pub count : n ≡ length (lines_of input)
  pub lines_within : n ≤ bounds.lines
  pub bytes_within : length input ≤ bounds.bytes

-- a read failed: the lines that end within the bytes read were answered, and a cut one was not; with the cut one they are within
-- both bounds
pub record StoppedReading (answering : Answering) (bounds : Bounds) (old_input new_input old_output new_output : Known) : Type 0 where
  pub input : List ℕ
  pub read : Consumes old_input new_input input
  pub lines_within : length (lines_of input) ≤ bounds.lines
  pub bytes_within : length input ≤ bounds.bytes
  pub wrote : Wrote answering (whole_lines [] input) old_output new_output

-- how many bytes one read asks for: at most this many may have been read but not looked at
abbrev pub one_read : ℕ
one_read = 4096

-- a write failed: of the bytes read, all but those of the last read were seen, within both bounds, and a prefix of the answers to
-- the lines that end within them was written; or all were seen, no byte comes after them, and the last line was being answered
pub record StoppedWriting (answering : Answering) (bounds : Bounds) (old_input new_input old_output new_output : Known) : Type 0 where
  pub seen : List ℕ
  pub unseen : List ℕ
  pub ahead : length unseen ≤ one_read
  pub read : Consumes old_input new_input (seen ++ unseen)
  pub bytes_within : length seen ≤ bounds.bytes
  pub wrote : ((length (whole_lines [] seen) ≤ bounds.lines) × WrotePart answering (whole_lines [] seen) old_output new_output)
      ⊎ ((unseen ≡ []) × IsAtEnd new_input × (length (lines_of seen) ≤ bounds.lines)
      × WrotePart answering (lines_of seen) old_output new_output)

-- a bound rules out one more byte
abbrev pub IsPast : Bounds → List ℕ → Type 0
IsPast bounds seen = (bounds.lines ≤ length (whole_lines [] seen)) ⊎ (bounds.bytes ≤ length seen)

-- a line or a byte more than the bounds allow: the lines that end within them were answered, and no more was read than the last
-- read gave
pub record StoppedPast (answering : Answering) (bounds : Bounds) (old_input new_input old_output new_output : Known) : Type 0 where
  pub seen : List ℕ
  pub unseen : List ℕ
  pub more : 0 < length unseen
  pub ahead : length unseen ≤ one_read
  pub read : Consumes old_input new_input (seen ++ unseen)
  pub lines_within : length (whole_lines [] seen) ≤ bounds.lines
  pub bytes_within : length seen ≤ bounds.bytes
  pub past : IsPast bounds seen
  pub wrote : Wrote answering (whole_lines [] seen) old_output new_output

-- there was no memory to begin: nothing was read, and nothing was written
pub record NotBegun (answering : Answering) (old_input new_input old_output new_output : Known) : Type 0 where
  pub no_line : answering [] []
  pub unread : Keeps old_input new_input
  pub unwritten : Keeps old_output new_output

-- there was no memory for the answer to a line: all the lines before it were answered, and neither it nor any line after it was;
-- it ends within both bounds, and no more was read after it than the last read gave
pub record HaltedAtLine (halting : Halting) (bounds : Bounds) (old_input new_input old_output new_output : Known) : Type 0 where
  pub seen : List ℕ
  pub unseen : List ℕ
  pub ahead : length unseen ≤ one_read
  pub read : Consumes old_input new_input (seen ++ unseen)
  pub before : List (List ℕ)
  pub stopped : List ℕ
  pub lines : lines_of seen ≡ before ++ stopped ∷ []
  -- with its line feed, or with the input
  pub ended : (last_piece [] seen ≡ []) ⊎ ((unseen ≡ []) × IsAtEnd new_input)
  pub lines_within : length (lines_of seen) ≤ bounds.lines
  pub bytes_within : length seen ≤ bounds.bytes
  pub answers : List ℕ
  pub given : halting before answers stopped
  pub written : Appends old_output new_output answers

-- there was no memory to begin or for the answer to a line
abbrev pub StoppedWithoutMemory : Answering → Halting → Bounds → Known → Known → Known → Known → Type 0
StoppedWithoutMemory answering halting bounds old_input new_input old_output new_output =
    NotBegun answering old_input new_input old_output new_output
    ⊎ HaltedAtLine halting bounds old_input new_input old_output new_output

-- what a run that ends with a fault has done
abbrev pub RunStopped : Answering → Halting → Bounds → Known → Known → Known → Known → RunFault → Type 0
RunStopped answering halting bounds old_input new_input old_output new_output Read =
    StoppedReading answering bounds old_input new_input old_output new_output
RunStopped answering halting bounds old_input new_input old_output new_output Write =
    StoppedWriting answering bounds old_input new_input old_output new_output
RunStopped answering halting bounds old_input new_input old_output new_output TooLong =
    StoppedPast answering bounds old_input new_input old_output new_output
RunStopped answering halting bounds old_input new_input old_output new_output OutOfMemory =
    StoppedWithoutMemory answering halting bounds old_input new_input old_output new_output
RunStopped answering halting bounds old_input new_input old_output new_output BadStart = ⊥

-- a write failed, and the answers to lines are the beginning of those to more lines: what was written is a prefix of the answers to all
-- lines of the bytes read
pub record StoppedWithin (answering : Answering) (bounds : Bounds) (old_input new_input old_output new_output : Known) : Type 0 where
  pub stopped : StoppedWriting answering bounds old_input new_input old_output new_output
  pub prefix : WrotePart answering (lines_of (stopped.seen ++ stopped.unseen)) old_output new_output
