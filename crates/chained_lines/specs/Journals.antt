-- What a journal holds.
use Rattle.std.specs.Prelude.{◌≡◌, ℕ, ◌≤◌, true, false, List, ◌++◌, length, take, Option, Some}
use Rattle.chained_lines.specs.Lines.{Line, are_lines, file_of, last_seal, no_seal}
use Rattle.chained_lines.specs.Records.{JournalRecord}

-- The bytes of the storage are known. They, and then what was noted, are the bytes of these lines; all of them are synced; and no commit
-- has failed.
pub record HoldsLines {S : Type 0} (contents : S → Option (List ℕ)) (synced : S → ℕ) (j : JournalRecord S) (ls : List Line) : Type 0 where
  pub written : List ℕ
  pub known : contents j.storage ≡ Some written
  pub lines : are_lines ls ≡ true
  pub bytes : written ++ j.noted ≡ file_of no_seal ls
  pub seal : j.seal ≡ last_seal no_seal ls
  pub settled : length written ≤ synced j.storage
  pub sound : j.has_failed ≡ false

-- all bytes of these lines are synced
abbrev pub KeepsLines : {S : Type 0} → (S → ℕ) → JournalRecord S → List Line → Type 0
KeepsLines synced j ls = length (file_of no_seal ls) ≤ synced j.storage

-- some first bytes of these lines
pub record IsFrontOf (bytes : List ℕ) (ls : List Line) : Type 0 where
  pub count : ℕ
  pub front : bytes ≡ take count (file_of no_seal ls)

-- bytes that are known, and are some first bytes of these lines
abbrev pub IsKnownFront : Option (List ℕ) → List Line → Type 0
IsKnownFront known ls = (bytes : List ℕ) × (known ≡ Some bytes) × IsFrontOf bytes ls
