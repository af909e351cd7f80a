use Rattle.std.proofs.Common.{ap, sym, ◌∙◌}
use Rattle.relay_messages.specs.Fields.{number_at}
use Rattle.relay_messages.specs.Usual.{usual_data}
use Rattle.relay_messages.specs.declared.object.usual.Usual.{Usual}
use Rattle.relay_messages.proofs.UsualFacts.{follow_numbers, from_numbers, spectator_numbers}
use Rattle.relay_messages.proofs.object.UsualObject.number.Goals as goal

pub returns-in_default : goal.returns-in_default
returns-in_default c =
    sym (ap (λ (u : Usual). number_at c.args.key.now (usual_data u)) c.in-Spectator.is
    ∙ spectator_numbers c.args.key.now c.in-Spectator.cmd c.in-Spectator.spectator c.in_default.not-spectator)

pub returns-in_default-key : goal.returns-in_default-key
returns-in_default-key c =
    sym (ap (λ (u : Usual). number_at c.args.key.now (usual_data u)) c.in-Follow.is
    ∙ follow_numbers c.args.key.now c.in-Follow.cmd c.in-Follow.board c.in-Follow.spectator c.in_default-key.not-spectator)

pub returns-in_default-key-2 : goal.returns-in_default-key-2
returns-in_default-key-2 c =
    let other = c.in_default-key-2 in
    let u = c.in-FollowFrom in
    sym (ap (λ (u : Usual). number_at c.args.key.now (usual_data u)) u.is
    ∙ from_numbers c.args.key.now u.cmd u.board u.spectator u.from other.not-spectator other.not-from)
