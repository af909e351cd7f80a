use Rattle.std.proofs.Common.{◌≡◌, option_map, take}
use Rattle.serde_json.specs.Find.{get_member}
use Rattle.relay_messages.specs.Members.{field_data, members_in}
use Rattle.relay_messages.proofs.object.plain.find.Given as goal

-- the last so far
abbrev pub invariant-members : goal.invariant-members
invariant-members l = option_map field_data l.found ≡ get_member l.key (members_in (take l.member-index l.members))
