-- The members of an object, and the values that they have.
use Rattle.std.specs.Prelude.{List, [], ◌∷◌}
use Rattle.serde_json.specs.Data.{Data, null, number, string, unsigned, Members, no_members, put}
use Rattle.relay_messages.specs.declared.member.Field.{Field}
use Rattle.relay_messages.specs.declared.member.Field.TheVariants.{Text, Number, Other}
use Rattle.relay_messages.specs.declared.member.Member.{Member}

abbrev pub field_data : Field → Data
field_data (Text text) = string text.now
field_data (Number n) = number (unsigned n)
field_data Other = null

-- Adds the members one after another.
abbrev pub with_all : Members → List Member → Members
with_all found [] = found
with_all found (m ∷ ms) = with_all (put m.key.now (field_data m.field) found) ms

abbrev pub members_in : List Member → Members
members_in ms = with_all no_members ms
