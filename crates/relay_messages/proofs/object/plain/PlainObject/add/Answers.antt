use Rattle.std.proofs.Common.{◌≡◌, false, is_some, ap, ◌∙◌, arith}
use Rattle.relay_messages.specs.Members.{members_in}
use Rattle.relay_messages.proofs.PlainFacts.{members_in-push, not_found, one_more_member}
use Rattle.relay_messages.proofs.object.plain.PlainObject.add.Goals as goal

pub invariant_of-self : goal.invariant_of-self
invariant_of-self c =
    let none : is_some c.get.result ≡ false = grind arith in
    record { counted = one_more_member _ _ _ c.push.ensures.items (not_found c.get.result _ c.get.ensures none) c.args.self.now.counted }

pub returns : goal.returns
returns c = ap members_in c.push.ensures.items ∙ members_in-push c.args.self.now.members.items _
