-- The exit statuses of the program, and those for arguments that ask for nothing that can be done.
use Rattle.std.specs.Prelude.{ℕ, ◌≡◌, ◌⊎◌}
use Rattle.relay960_words.specs.declared.status.Status.{Status}
use Rattle.relay960_words.specs.declared.status.Status.TheVariants.{Done, Refused, FaultyWords, DeviceFailed, OutOfMemory}

abbrev pub status_code : Status → ℕ
status_code Done = 0
status_code Refused = 1
status_code FaultyWords = 2
status_code DeviceFailed = 3
status_code OutOfMemory = 4

-- faulty arguments or help, or there was no memory
abbrev pub IsFault : Status → Type 0
IsFault s = (s ≡ FaultyWords) ⊎ (s ≡ OutOfMemory)
