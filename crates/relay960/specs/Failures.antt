-- What failed, and the name under which it is shown.
use Rattle.std.specs.Prelude.{ℕ, List, ◌++◌, Option, None, Some, codes}
use Rattle.std.specs.Fmt.{decimal}
use Rattle.std.specs.Net.Text.{socket_text}
use Rattle.std.specs.declared.io.Error.{Error}
use Rattle.relay960.specs.declared.failure.Device.{Device}
use Rattle.relay960.specs.declared.failure.Device.TheVariants.{Input, Output, Port, File, TornPart}
use Rattle.relay960.specs.declared.failure.Failure.{Failure}
use Rattle.relay960.specs.declared.failure.Reason.TheVariants.{System}

abbrev pub device_text : Device → List ℕ
device_text Input = codes "standard input"
device_text Output = codes "standard output"
device_text (Port address) = socket_text address
device_text (File path) = path.now
device_text (TornPart path at) = path.now ++ codes ".torn-" ++ decimal at

-- of a reader and a writer with these errors: what the reader met, which came first, and else what the writer met
abbrev pub first_failure : Option Error → Option Error → Option Failure
first_failure (Some reason) writing = Some (record { device = Input; reason = System reason })
first_failure None (Some reason) = Some (record { device = Output; reason = System reason })
first_failure None None = None
