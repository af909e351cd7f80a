use Rattle.std.proofs.Common.{◌≡◌, List, ◌∷◌, length, true, false}
use denote.Shadow.{shadow}
use denote.Text.{Utf8}
use Rattle.json.specs.Token.{Token}
use Rattle.relay_messages.specs.Compact.{AreWithin64Bits, IsSpaced, member_tokens}
use Rattle.relay_messages.specs.Members.{members_in}
use Rattle.relay_messages.specs.declared.member.Member.{Member}
use Rattle.relay_messages.proofs.reading.compact.read_compact.Given as goal

-- the members so far, behind which the tokens follow that the rest is
abbrev pub invariant-members : goal.invariant-members
invariant-members l = record {
  utf8 : shadow (Utf8 l.rest);
  found : List Member;
  within : AreWithin64Bits found;
  added : members_in l.object.members.items ≡ members_in found;
  written : (ts : List Token) → IsSpaced true l.rest ts → IsSpaced false l.text (Token.begin_object ∷ member_tokens found ts);
}

abbrev pub decreases-members : goal.decreases-members
decreases-members l = length l.rest
