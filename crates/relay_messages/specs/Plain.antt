-- The value that a plain object represents.
use Rattle.serde_json.specs.Data.{Data, object}
use Rattle.relay_messages.specs.declared.object.plain.PlainObject.{PlainObject}
use Rattle.relay_messages.specs.Members.{members_in}

abbrev pub plain_data : PlainObject → Data
plain_data o = object (members_in o.members.items)
