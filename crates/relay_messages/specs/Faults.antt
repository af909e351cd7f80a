-- The faults of messages: their numbers and names.
use Rattle.std.specs.Prelude.{ℕ, List, codes}
use Rattle.relay_messages.specs.declared.fault.MessageFault.{MessageFault}
use Rattle.relay_messages.specs.declared.fault.MessageFault.TheVariants.{OutOfMemory, NotJson, NotObject, UnknownCommand, BadField}

abbrev pub message_fault_code : MessageFault → ℕ
message_fault_code OutOfMemory = 12
message_fault_code NotJson = 21
message_fault_code NotObject = 22
message_fault_code UnknownCommand = 23
message_fault_code BadField = 24

abbrev pub message_fault_name : MessageFault → List ℕ
message_fault_name OutOfMemory = codes "OutOfMemory"
message_fault_name NotJson = codes "NotJson"
message_fault_name NotObject = codes "NotObject"
message_fault_name UnknownCommand = codes "UnknownCommand"
message_fault_name BadField = codes "BadField"
