-- The lines of a journal that count, and how a relay goes on behind them.
use Rattle.std.specs.Prelude.{◌≡◌, ℕ, List, [], length}
use Rattle.chained_lines.specs.Lines.{file_of, last_seal, no_seal, read_lines}
use Rattle.chained_lines.specs.Records.{JournalRecord, StableFileRecord}
use Rattle.chained_lines.specs.declared.sound.SoundPart.{SoundPart}

-- the lines that count of a file with these bytes: how many they are, how many bytes they have, and the seal of the last
pub record IsSound (bytes : List ℕ) (sound : SoundPart) : Type 0 where
  pub lines : sound.lines ≡ length (read_lines no_seal bytes)
  pub size : sound.bytes ≡ length (file_of no_seal (read_lines no_seal bytes))
  pub seal : sound.seal ≡ last_seal no_seal (read_lines no_seal bytes)

-- A journal goes on behind these lines in a file of so many bytes: what is noted next is sealed over the last of them, and stands behind
-- it.
pub record GoesOnBehind (sound : SoundPart) (size : ℕ) (journal : JournalRecord StableFileRecord) : Type 0 where
  pub seal : journal.seal ≡ sound.seal
  pub written : journal.storage.written ≡ sound.bytes
  pub length : journal.storage.length ≡ size
  pub nothing : journal.noted ≡ []
