-- The faults of serving: their numbers and names, what failed, and the statuses of the program.
use Rattle.std.specs.Prelude.{ℕ, List, ◌++◌, Option, None, Some, codes}
use Rattle.std.specs.Fmt.{decimal}
use Rattle.relay960.specs.declared.failure.Failure.{Failure}
use Rattle.relay960.specs.declared.serving.fault.ServeFault.{ServeFault}
use Rattle.relay960.specs.declared.serving.fault.ServeFault.TheVariants.{Device, Read, Write, OutOfMemory}
use Rattle.relay960_words.specs.declared.status.Status.{Status}
use Rattle.relay960_words.specs.declared.status.Status.TheVariants as status

abbrev pub serve_fault_code : ServeFault → ℕ
serve_fault_code (Device failure) = 41
serve_fault_code (Read failure) = 31
serve_fault_code (Write failure) = 32
serve_fault_code OutOfMemory = 12

abbrev pub serve_fault_name : ServeFault → List ℕ
serve_fault_name (Device failure) = codes "Device"
serve_fault_name (Read failure) = codes "Read"
serve_fault_name (Write failure) = codes "Write"
serve_fault_name OutOfMemory = codes "OutOfMemory"

abbrev pub serve_fault_text : ServeFault → List ℕ
serve_fault_text fault = codes "fault " ++ decimal (serve_fault_code fault) ++ codes " " ++ serve_fault_name fault

abbrev pub serve_fault_failure : ServeFault → Option Failure
serve_fault_failure (Device failure) = Some failure
serve_fault_failure (Read failure) = Some failure
serve_fault_failure (Write failure) = Some failure
serve_fault_failure OutOfMemory = None

abbrev pub serve_fault_status : ServeFault → Status
serve_fault_status (Device failure) = status.DeviceFailed
serve_fault_status (Read failure) = status.DeviceFailed
serve_fault_status (Write failure) = status.DeviceFailed
serve_fault_status OutOfMemory = status.OutOfMemory
