-- The JSON value behind an object of any form.
use Rattle.std.specs.Prelude.{◌≡◌, List, Option, Some, None, unwrap_or}
use Rattle.json.specs.Json.{value}
use Rattle.json.specs.Token.{Token}
use Rattle.serde_json.specs.Data.{Data, Members, null}
use Rattle.serde_json.specs.Find.{as_object}
use Rattle.serde_json.specs.Read.{converted, of_json, read}
use Rattle.relay_messages.specs.KeptValues.{kept_members}
use Rattle.relay_messages.specs.Members.{members_in}
use Rattle.relay_messages.specs.declared.object.any.AnyObject.{AnyObject}
use Rattle.relay_messages.specs.declared.object.any.KeptMembers.{KeptMembers}

-- what its text means
abbrev pub any_data : AnyObject → Data
any_data o = unwrap_or (read o.text.now) null

-- the object that was read was kept, or there was none
abbrev pub IsFound : Option AnyObject → Option Data → Type 0
IsFound (Some o) read = read ≡ Some (any_data o)
IsFound None read = (d : Data) × (read ≡ Some d) × (as_object d ≡ None)

-- these members are what is kept, or there are none
abbrev pub IsKept : Option KeptMembers → Option Members → Type 0
IsKept (Some found) object = (ms : Members) × (object ≡ Some ms) × (members_in found.members.items ≡ kept_members ms)
IsKept None object = object ≡ None

-- a value comes first of which this is kept, and these tokens follow it
abbrev pub IsNext : Option KeptMembers → List Token → List Token → Type 0
IsNext found ts r = (d : Data) × (converted of_json (value 127 ts) ≡ Some (d, r)) × IsKept found (as_object d)
