-- What is kept of a value: a text or an unsigned whole number; of any other value only that there is one.
use Rattle.std.specs.Prelude.{Option, option_map, option_and_then}
use Rattle.serde_json.specs.Data.{Num, unsigned, negative, float, Data, null, boolean, number, string, array, object, Members, no_members, member}
use Rattle.serde_json.specs.Find.{as_object}

abbrev pub kept_number : Num → Data
kept_number (unsigned n) = number (unsigned n)
kept_number (negative z) = null
kept_number (float x) = null

abbrev pub kept : Data → Data
kept null = null
kept (boolean b) = null
kept (number x) = kept_number x
kept (string s) = string s
kept (array ds) = null
kept (object ms) = null

abbrev pub kept_members : Members → Members
kept_members no_members = no_members
kept_members (member k d ms) = member k (kept d) (kept_members ms)

-- what is kept of the object that was read, if one was
abbrev pub kept_object : Option Data → Option Members
kept_object read = option_map kept_members (option_and_then as_object read)
