use Rattle.std.proofs.Common.{◌≡◌, ℕ, ◌≤◌, length}
use Rattle.json.specs.Json.{members, value}
use Rattle.serde_json.specs.Read.{converted, of_members}
use Rattle.relay_messages.specs.Members.{members_in}
use Rattle.relay_messages.proofs.reading.plain.read_members.Given as goal

-- what has yet to come is added to what was read
abbrev pub invariant-members : goal.invariant-members
invariant-members l = record {
  turns : ℕ;
  enough : length l.reader ≤ turns;
  read : converted (λ ms. of_members ms (members_in l.initial.object.members.items)) (members (value 126) (length l.initial.reader) l.initial.reader)
      ≡ converted (λ ms. of_members ms (members_in l.object.members.items)) (members (value 126) turns l.reader);
}

abbrev pub decreases-members : goal.decreases-members
decreases-members l = length l.reader
