-- What is written to standard error about a fault.
use Rattle.std.specs.Prelude.{ℕ, List, Option, None, Some}
use Rattle.std.specs.Fmt.{◌++?◌, with_newline}

-- the fault's line, and behind it that of what failed, if something did; `None` for a text that is not known
abbrev pub report_text : Option (List ℕ) → Option (Option (List ℕ)) → Option (List ℕ)
report_text fault None = with_newline fault
report_text fault (Some failure) = with_newline fault ++? with_newline failure
