use Rattle.std.proofs.Common.{is_some, ap, ◌∙◌}
use Rattle.std.specs.Coded.{Coded-set, coded_bool}
use Rattle.std.proofs.Math.Logic.{∥∥₁_elim}
use Rattle.serde_json.specs.Find.{get_member}
use Rattle.relay_messages.specs.Members.{members_in}
use Rattle.relay_messages.proofs.KeptFacts.{any_read, found_as}
use Rattle.relay_messages.proofs.object.AnyObjectObject.has.Goals as goal

pub returns : goal.returns
returns c =
    c.is_some.ensures ∙ found_as c.get.result _ c.get.ensures ∙ ap (λ m. is_some (get_member c.args.key.now (members_in m.members.items))) c.members.ensures
    ∙ ∥∥₁_elim c.args.self.now.read (Coded-set coded_bool _ _) (λ e. any_read _ _ e c.args.key.now)
