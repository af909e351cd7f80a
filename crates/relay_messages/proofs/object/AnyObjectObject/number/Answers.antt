use Rattle.std.proofs.Common.{option_and_then, ap, ◌∙◌}
use Rattle.std.specs.Coded.{Coded-set, coded_option, coded_ℕ}
use Rattle.std.proofs.Math.Logic.{∥∥₁_elim}
use Rattle.serde_json.specs.Find.{as_number, as_u64, get_member}
use Rattle.relay_messages.specs.Members.{members_in}
use Rattle.relay_messages.proofs.KeptFacts.{number_read}
use Rattle.relay_messages.proofs.object.AnyObjectObject.number.Goals as goal

pub returns : goal.returns
returns c =
    c.number.ensures ∙ ap (λ m. option_and_then as_u64 (option_and_then as_number (get_member c.args.key.now (members_in m.members.items)))) c.members.ensures
    ∙ ∥∥₁_elim c.args.self.now.read (Coded-set (coded_option coded_ℕ) _ _) (λ e. number_read _ _ e c.args.key.now)
