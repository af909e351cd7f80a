use Rattle.std.proofs.Common.{◌≡◌, ℕ, ◌≤◌, length}
use Rattle.json.specs.Json.{members, value}
use Rattle.serde_json.specs.Data.{Members, no_members}
use Rattle.serde_json.specs.Read.{converted, of_members}
use Rattle.relay_messages.specs.KeptValues.{kept_members}
use Rattle.relay_messages.specs.Members.{members_in}
use Rattle.relay_messages.proofs.reading.any.read_members.Given as goal

-- what has yet to come is added to what was read, of which this much was kept
abbrev pub invariant-members : goal.invariant-members
invariant-members l = record {
  turns : ℕ;
  so_far : Members;
  enough : length l.reader ≤ turns;
  read : converted (λ ms. of_members ms no_members) (members (value 126) (length l.initial.reader) l.initial.reader)
      ≡ converted (λ ms. of_members ms so_far) (members (value 126) turns l.reader);
  found : members_in l.found.members.items ≡ kept_members so_far;
}

abbrev pub decreases-members : goal.decreases-members
decreases-members l = length l.reader
