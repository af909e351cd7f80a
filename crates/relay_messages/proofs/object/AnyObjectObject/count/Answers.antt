use Rattle.std.proofs.Common.{ap, ◌∙◌}
use Rattle.std.specs.Coded.{Coded-set, coded_ℕ}
use Rattle.std.proofs.Math.Logic.{∥∥₁_elim}
use Rattle.serde_json.specs.Events.{members_len}
use Rattle.relay_messages.specs.Members.{members_in}
use Rattle.relay_messages.proofs.KeptFacts.{count_read}
use Rattle.relay_messages.proofs.object.AnyObjectObject.count.Goals as goal

pub returns : goal.returns
returns c =
    c.len.ensures ∙ ap (λ m. members_len (members_in m.members.items)) c.members.ensures
    ∙ ∥∥₁_elim c.args.self.now.read (Coded-set coded_ℕ _ _) (count_read _ _)
