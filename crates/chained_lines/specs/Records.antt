-- What contracts see of a journal, and of a file on a disk.
use Rattle.std.specs.Prelude.{ℕ, Bool, List}

-- its storage; the bytes that were noted since the last commit; the seal of the last line; whether a commit has failed
pub record JournalRecord (S : Type 0) : Type 0 where
  pub storage : S
  pub noted : List ℕ
  pub seal : List ℕ
  pub has_failed : Bool

-- how many bytes were written, how many it has, and whether the disk had room for zeros when they were put there last
pub record StableFileRecord : Type 0 where
  pub written : ℕ
  pub length : ℕ
  pub has_room : Bool
