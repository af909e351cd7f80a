-- The faults that end a run: their numbers and names.
use Rattle.std.specs.Prelude.{ℕ, List, codes}
use Rattle.relay960_engines.specs.declared.fault.RunFault.{RunFault}
use Rattle.relay960_engines.specs.declared.fault.RunFault.TheVariants.{Read, Write, TooLong, OutOfMemory, BadStart}

abbrev pub run_fault_code : RunFault → ℕ
run_fault_code Read = 31
run_fault_code Write = 32
run_fault_code TooLong = 33
run_fault_code OutOfMemory = 12
run_fault_code BadStart = 3

abbrev pub run_fault_name : RunFault → List ℕ
run_fault_name Read = codes "Read"
run_fault_name Write = codes "Write"
run_fault_name TooLong = codes "TooLong"
run_fault_name OutOfMemory = codes "OutOfMemory"
run_fault_name BadStart = codes "BadStart"
