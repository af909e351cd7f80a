-- What a job has done, and the exit status of the program. The relations go from what the input holds and the output was given before it to
-- what they are after it.
use Rattle.std.specs.Prelude.{ℕ, ◌≡◌, ◌⊎◌, nat_lt, cond, codes, Bool, List, Result, Ok, Err}
use Rattle.std.specs.Io.KnownBytes.{Appends, Keeps}
use Rattle.c960_board.specs.declared.numbering.TheConstants.{STARTS}
use Rattle.c960_game.specs.Limits.{LimitNumbers}
use Rattle.relay960_engines.specs.declared.fault.RunFault.{RunFault}
use Rattle.relay960_engines.specs.declared.fault.RunFault.TheVariants.{Read, Write, TooLong, OutOfMemory, BadStart}
use Rattle.relay960_engines.specs.Limits.{greatest_bounds}
use Rattle.relay960_engines.specs.Moves.{Answered, Failed}
use Rattle.relay960_engines.specs.Play.{Played, PlayStopped}
use Rattle.relay960_engines.specs.Script.{Ran, ScriptStopped}
use Rattle.relay960_engines.specs.Runs.{Known}
use Rattle.relay960_engines.specs.Start.{start_line}
use Rattle.relay960_engines.specs.Version.{version_line}
use Rattle.relay960_engines.specs.Writing.{AppendsPart}
use Rattle.relay960_words.specs.declared.status.Status.{Status}
use Rattle.relay960_words.specs.declared.status.Status.TheVariants as status
use Rattle.relay960_words.specs.declared.order.Job.{Job}
use Rattle.relay960_words.specs.declared.order.Job.TheVariants.{Start, Moves, Play, Script, Version}

abbrev pub fault_status : RunFault → Status
fault_status Read = status.DeviceFailed
fault_status Write = status.DeviceFailed
fault_status TooLong = status.DeviceFailed
fault_status OutOfMemory = status.OutOfMemory
fault_status BadStart = status.Refused

-- of a run that is done with a status, or that a fault ended
abbrev pub end_status : Result Status RunFault → Status
end_status (Ok s) = s
end_status (Err fault) = fault_status fault

-- done with the line of start n, or refused with that of its refusal; or a device failed, with a prefix of the line
abbrev pub StartEnds : ℕ → Known → Known → Status → Type 0
StartEnds n old new s = ((s ≡ cond (nat_lt n STARTS) status.Done status.Refused) × Appends old new (start_line n)) ⊎ ((s ≡ status.DeviceFailed) × AppendsPart old new (start_line n))

-- done with the lines of a lawful position, or refused with the line that refuses the text; or a fault's, with what holds then
abbrev pub MovesEnds : List ℕ → Known → Known → Status → Type 0
MovesEnds fen old new s =
    ((good : Bool) × (s ≡ cond good status.Done status.Refused) × Answered fen good old new)
    ⊎ ((fault : RunFault) × (s ≡ fault_status fault) × Failed fen fault old new)

-- done with all answers of the game of start n, or a fault's, with what holds then
abbrev pub PlayEnds : ℕ → Known → Known → Known → Known → Status → Type 0
PlayEnds n old_input new_input old_output new_output s =
    ((count : ℕ) × (s ≡ status.Done) × Played n greatest_bounds old_input new_input old_output new_output count)
    ⊎ ((fault : RunFault) × (s ≡ fault_status fault)
    × PlayStopped n greatest_bounds old_input new_input old_output new_output fault)

-- done with all answers of a relay with these limits, or a fault's, with what holds then
abbrev pub ScriptEnds : LimitNumbers → Known → Known → Known → Known → Status → Type 0
ScriptEnds limits old_input new_input old_output new_output s =
    ((count : ℕ) × (s ≡ status.Done) × Ran limits greatest_bounds old_input new_input old_output new_output count)
    ⊎ ((fault : RunFault) × (s ≡ fault_status fault)
    × ScriptStopped limits greatest_bounds old_input new_input old_output new_output fault)

-- done with the line of this version, or a device failed, with a prefix of the line
abbrev pub VersionEnds : Known → Known → Status → Type 0
VersionEnds old new s =
    ((s ≡ status.Done) × Appends old new (version_line (codes "0.1.0")))
    ⊎ ((s ≡ status.DeviceFailed) × AppendsPart old new (version_line (codes "0.1.0")))

-- the job was done in this way, and ends with status s; `start`, `moves` and `--version` read nothing
abbrev pub Ends : Job → Known → Known → Known → Known → Status → Type 0
Ends (Start n) old_input new_input old_output new_output s = Keeps old_input new_input × StartEnds n old_output new_output s
Ends (Moves fen) old_input new_input old_output new_output s = Keeps old_input new_input × MovesEnds fen.now old_output new_output s
Ends (Play n) old_input new_input old_output new_output s = PlayEnds n old_input new_input old_output new_output s
Ends (Script limits) old_input new_input old_output new_output s = ScriptEnds limits old_input new_input old_output new_output s
Ends Version old_input new_input old_output new_output s = Keeps old_input new_input × VersionEnds old_output new_output s

-- the same over streams that do not show what they hold
abbrev pub EndsSomehow : Job → Status → Type 0
EndsSomehow job s =
    (old_input : Known) × (new_input : Known) × (old_output : Known) × (new_output : Known)
    × Ends job old_input new_input old_output new_output s
