use Rattle.std.proofs.Common.{◌≡◌, true, false, is_some, ap, ◌∙◌, arith}
use Rattle.relay_messages.specs.Members.{members_in}
use Rattle.relay_messages.proofs.InOrder.{known_field, known_member, new_member}
use Rattle.relay_messages.proofs.PlainFacts.{members_in-push, not_found}
use Rattle.relay_messages.proofs.object.any.KeptMembers.add.Goals as goal

pub invariant_of-self-then-is_known-clause-counted : goal.invariant_of-self-then-is_known-clause-counted
invariant_of-self-then-is_known-clause-counted c =
    let there : is_some c.get.result ≡ true = grind arith in
    let x = known_field c.get.result _ c.get.ensures there in
    known_member _ _ _ x.0 c.in_ok-push.ensures.items x.1 ∙ c.args.self.now.counted

pub returns-then-is_known : goal.returns-then-is_known
returns-then-is_known c = ap members_in c.in_ok-push.ensures.items ∙ members_in-push c.args.self.now.members.items _

pub invariant_of-self-2-clause-counted : goal.invariant_of-self-2-clause-counted
invariant_of-self-2-clause-counted c =
    let none : is_some c.get.result ≡ false = grind arith in
    omega (arith, new_member _ _ _ c.in_ok-push.ensures.items (not_found c.get.result _ c.get.ensures none), c.args.self.now.counted)

pub returns : goal.returns
returns c = ap members_in c.in_ok-push.ensures.items ∙ members_in-push c.args.self.now.members.items _
