-- How often a device has failed, and what that says about how a run ends: with the fault of a device exactly if that device has
-- failed once more.
use Rattle.std.specs.Prelude.{ℕ, ◌+◌, ◌==◌, ◌&&◌, nat_lt, List, length, Option, option_map, Result, Ok, Err, cond}
use Rattle.relay960_engines.specs.declared.fault.RunFault.{RunFault}
use Rattle.relay960_engines.specs.declared.fault.RunFault.TheVariants.{Read, Write, TooLong, OutOfMemory, BadStart}

-- how often a device has failed, if it counts that
abbrev pub Failures : Type 0
Failures = Option ℕ

abbrev pub one_more : Failures → Failures
one_more failures = option_map (λ n. n + 1) failures

-- ---- One read, one write: the failures after it, from those before it.

-- a read has failed if it returns an error
abbrev pub failures_of_read : {E : Type 0} → Result ℕ E → Failures → Failures
failures_of_read (Ok n) failures = failures
failures_of_read (Err e) failures = one_more failures

-- a write of these bytes has failed if it returns an error, or took no byte although there are some
abbrev pub failures_of_write : {E : Type 0} → Result ℕ E → List ℕ → Failures → Failures
failures_of_write (Ok n) bytes failures = cond (n == 0 && nat_lt 0 (length bytes)) (one_more failures) failures
failures_of_write (Err e) bytes failures = one_more failures

-- ---- A run: the failures after it, from those before it.

-- one more failure of the reader if the run ends with its fault, and otherwise none
abbrev pub reads_failed : {T : Type 0} → Result T RunFault → Failures → Failures
reads_failed (Ok done) failures = failures
reads_failed (Err Read) failures = one_more failures
reads_failed (Err Write) failures = failures
reads_failed (Err TooLong) failures = failures
reads_failed (Err OutOfMemory) failures = failures
reads_failed (Err BadStart) failures = failures

-- the same for the writer
abbrev pub writes_failed : {T : Type 0} → Result T RunFault → Failures → Failures
writes_failed (Ok done) failures = failures
writes_failed (Err Read) failures = failures
writes_failed (Err Write) failures = one_more failures
writes_failed (Err TooLong) failures = failures
writes_failed (Err OutOfMemory) failures = failures
writes_failed (Err BadStart) failures = failures
