-- That what a hall has is in a journal, and what of it is on the disk.
use Rattle.std.specs.Prelude.{◌≡◌, ◌≤◌, ◌⊎◌, ℕ, false, true, List, ◌∷◌, length, Option, None, Some}
use Rattle.chained_lines.specs.Lines.{Line, are_lines, file_of, no_seal}
use Rattle.relay_hall.specs.Record.{FloorRecord, HallRecord}
use Rattle.relay_hall.specs.Runs.{HallEvent, HallStep, HallTold}
use Rattle.relay_journal.specs.Standing.{StandFor}
use Rattle.relay_journal.specs.Scribes.{ScribeRecord}
use Rattle.relay_journal.specs.Writing.{HoldsIfKnown, IsWritten}
use Rattle.relay_journal.specs.Bodies.{SaysEntries}
use Rattle.relay_journal.specs.declared.entry.Entry.{Entry}
use Rattle.chained_lines.specs.Records.{JournalRecord}
use Rattle.chained_lines.specs.Storage.{Failed}

-- The bytes of the journal are these lines, which stand for the boards, and all of them are synced, if the bytes are known.
pub record IsOnDisk {S : Type 0} (contents : S → Option (List ℕ)) (synced : S → ℕ) (s : ScribeRecord S) (f : FloorRecord) : Type 0 where
  pub lines : List Line
  pub boards : StandFor lines f
  pub bytes : (written : List ℕ) → contents s.journal.storage ≡ Some written → written ≡ file_of no_seal lines
  -- no line feed stands within one, so that they are what is read of these bytes
  pub whole : (written : List ℕ) → contents s.journal.storage ≡ Some written → are_lines lines ≡ true
  pub synced_all : (written : List ℕ) → contents s.journal.storage ≡ Some written → length written ≤ synced s.journal.storage

-- while nothing has failed, what was noted stands for the boards
abbrev pub IsKept : {S : Type 0} → (S → Option (List ℕ)) → (S → ℕ) → Option (ScribeRecord S) → FloorRecord → Type 0
IsKept contents synced None f = Unit {0}
IsKept contents synced (Some s) f = s.has_failed ≡ false → IsWritten contents synced s f

-- The journal says these entries behind its first line, and holds the lines that do, if its bytes are known.
pub record IsJournalOf {S : Type 0} (contents : S → Option (List ℕ)) (synced : S → ℕ) (j : JournalRecord S) (es : List Entry) : Type 0 where
  pub first : Line
  pub others : List Line
  pub said : SaysEntries (first ∷ others) es
  pub holds : HoldsIfKnown contents synced j (first ∷ others)

-- one event has passed in a hall, or none
abbrev pub IsOneEvent : HallRecord → HallRecord → Type 0
IsOneEvent k l = ((e : HallEvent) × (told : HallTold) × HallStep k e told l) ⊎ (l ≡ k)

-- a journal that had not failed before has failed now, since its storage has, as far as that is known
abbrev pub HasCause : {S : Type 0} → (S → Option ℕ) → Option (ScribeRecord S) → Option (ScribeRecord S) → Type 0
HasCause failures None new = ⊥
HasCause failures (Some s) None = ⊥
HasCause failures (Some s) (Some t) = s.has_failed ≡ false → s.journal.has_failed ≡ false → Failed (failures s.journal.storage) (failures t.journal.storage)
