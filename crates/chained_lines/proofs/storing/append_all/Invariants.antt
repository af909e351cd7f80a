-- The loop ends, since each turn writes some bytes; what is written is in the storage.
use Rattle.std.proofs.Common.{◌≡◌, ℕ, ◌-◌, ◌≤◌, List, length, take}
use Rattle.std.specs.Prelude.{Option, None}
use Rattle.std.specs.Io.KnownBytes.{Appends}
use Rattle.chained_lines.specs.Storage.{FailedOrNot}
use Rattle.chained_lines.proofs.storing.append_all.Given as goal

pub record HasWritten {S : Type 0} (contents : S → Option (List ℕ)) (synced : S → ℕ) (failures : S → Option ℕ) (old new : S) (bytes : List ℕ) (written : ℕ) : Type 0 where
  pub within : written ≤ length bytes
  pub appended : Appends (contents old) (contents new) (take written bytes)
  pub kept : synced old ≤ synced new
  pub unknown : contents old ≡ None → contents new ≡ None
  pub later : FailedOrNot (failures old) (failures new)

abbrev pub invariant-loop-written : goal.invariant-loop-written
invariant-loop-written g l =
    HasWritten g.S.StableStorage.contents g.S.StableStorage.synced g.S.StableStorage.failures l.initial.storage l.storage l.bytes l.written

abbrev pub decreases-loop-written : goal.decreases-loop-written
decreases-loop-written g l = length l.bytes - l.written
