-- That a scribe has written what there is.
use Rattle.std.specs.Prelude.{◌≡◌, ℕ, false, List, ◌++◌, Option, Some}
use Rattle.chained_lines.specs.Journals.{HoldsLines}
use Rattle.chained_lines.specs.Lines.{Line}
use Rattle.chained_lines.specs.Records.{JournalRecord}
use Rattle.relay_hall.specs.Record.{FloorRecord}
use Rattle.relay_journal.specs.declared.entry.Entry.{Entry}
use Rattle.relay_journal.specs.Bodies.{AllBodies}
use Rattle.relay_journal.specs.Scribes.{ScribeRecord, noted_in}
use Rattle.relay_journal.specs.Standing.{StandFor}

-- a journal holds these lines, if the bytes of its storage are known
abbrev pub HoldsIfKnown : {S : Type 0} → (S → Option (List ℕ)) → (S → ℕ) → JournalRecord S → List Line → Type 0
HoldsIfKnown contents synced j ls = (written : List ℕ) → contents j.storage ≡ Some written → HoldsLines contents synced j ls

-- Lines stand for these boards. The journal holds them, if the bytes of its storage are known. Of no board anything is missing, and the
-- scribe has not failed.
pub record IsWritten {S : Type 0} (contents : S → Option (List ℕ)) (synced : S → ℕ) (s : ScribeRecord S) (f : FloorRecord) : Type 0 where
  pub ls : List Line
  pub boards : StandFor ls f
  pub noted : s.noted ≡ noted_in f
  pub lines : HoldsIfKnown contents synced s.journal ls
  pub sound : s.has_failed ≡ false

-- lines that say these entries were noted in a journal
pub record AreNoted {S : Type 0} (contents : S → Option (List ℕ)) (synced : S → ℕ) (old new : JournalRecord S) (es : List Entry) : Type 0 where
  pub more : List Line
  pub said : AllBodies more es
  pub lines : (ls : List Line) → HoldsLines contents synced old ls → HoldsLines contents synced new (ls ++ more)
  pub storage : new.storage ≡ old.storage
