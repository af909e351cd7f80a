-- What a text means: on the main port, and on the watch port. The two differ only in what a JSON value means there.
use Rattle.std.specs.Prelude.{ℕ, ◌≡◌, ◌≤◌, ◌⊎◌, nat_lt, cond, List, length, Option, Some, None, Result, Err}
use Rattle.std.specs.Str.{is_utf8}
use Rattle.serde_json.specs.Data.{Data}
use Rattle.serde_json.specs.Read.{read}
use Rattle.relay_core.specs.declared.step.Step.{Step}
use Rattle.relay_messages.specs.declared.fault.MessageFault.{MessageFault}
use Rattle.relay_messages.specs.declared.fault.MessageFault.TheVariants.{OutOfMemory, NotJson, BadField}
use Rattle.relay_messages.specs.declared.reading.TheConstants.{MOST_BYTES}
use Rattle.relay_messages.specs.declared.watch_command.WatchCommand.{WatchCommand}
use Rattle.relay_messages.specs.Commands.{command_in, watch_command_in}

-- what the value that was read means, if one was
abbrev pub value_says : {A : Type 0} → (Data → Result A MessageFault) → Option Data → Result A MessageFault
value_says says (Some d) = says d
value_says says None = Err NotJson

-- what a text means, if a JSON value means this; or its first fault. A text may have MOST_BYTES bytes.
unfoldable pub text_says : {A : Type 0} → (Data → Result A MessageFault) → List ℕ → Result A MessageFault
text_says says text =
    cond (nat_lt MOST_BYTES (length text)) (Err BadField) (cond (is_utf8 text) (value_says says (read text)) (Err NotJson))

-- the command that a text gives, or its first fault
unfoldable pub decoded : List ℕ → Result Step MessageFault
decoded text = text_says command_in text

-- the same on the watch port
unfoldable pub watch_decoded : List ℕ → Result WatchCommand MessageFault
watch_decoded text = text_says watch_command_in text

-- the answer is what the text means, or lack of memory, which cannot occur for a text of more bytes than it may have
abbrev pub IsSaid : {A : Type 0} → List ℕ → Result A MessageFault → Result A MessageFault → Type 0
IsSaid text said answer = (answer ≡ said) ⊎ ((length text ≤ MOST_BYTES) × (answer ≡ Err OutOfMemory))

-- the results of decoding
abbrev pub IsDecoding : List ℕ → Result Step MessageFault → Type 0
IsDecoding text answer = IsSaid text (decoded text) answer

-- the results of decoding on the watch port
abbrev pub IsWatchDecoding : List ℕ → Result WatchCommand MessageFault → Type 0
IsWatchDecoding text answer = IsSaid text (watch_decoded text) answer

-- the results of reading a text in UTF-8: what the text means, or lack of memory
abbrev pub IsReading : {A : Type 0} → (Data → Result A MessageFault) → List ℕ → Result A MessageFault → Type 0
IsReading says text answer = (answer ≡ value_says says (read text)) ⊎ (answer ≡ Err OutOfMemory)
