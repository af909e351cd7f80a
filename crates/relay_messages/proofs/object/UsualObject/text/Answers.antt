use Rattle.std.proofs.Common.{ap, sym, ◌∙◌}
use Rattle.relay_messages.specs.Fields.{text_at}
use Rattle.relay_messages.specs.Usual.{usual_data}
use Rattle.relay_messages.specs.declared.object.usual.Usual.{Usual}
use Rattle.relay_messages.proofs.UsualFacts.{follow_texts, from_texts, move_texts, spectator_texts}
use Rattle.relay_messages.proofs.object.UsualObject.text.Goals as goal

pub returns-in_default : goal.returns-in_default
returns-in_default c =
    sym (ap (λ (u : Usual). text_at c.args.key.now (usual_data u)) c.in-Spectator.is ∙ spectator_texts c.args.key.now c.in-Spectator.cmd c.in-Spectator.spectator c.in_default.not-cmd)

pub returns-in_default-key : goal.returns-in_default-key
returns-in_default-key c =
    let other = c.in_default-key in
    sym (ap (λ (u : Usual). text_at c.args.key.now (usual_data u)) c.in-Move.is
    ∙ move_texts c.args.key.now c.in-Move.cmd c.in-Move.board c.in-Move.m other.not-cmd other.not-board other.not-move)

pub returns-in_default-key-2 : goal.returns-in_default-key-2
returns-in_default-key-2 c =
    let other = c.in_default-key-2 in
    sym (ap (λ (u : Usual). text_at c.args.key.now (usual_data u)) c.in-Follow.is
    ∙ follow_texts c.args.key.now c.in-Follow.cmd c.in-Follow.board c.in-Follow.spectator other.not-cmd other.not-board)

pub returns-in_default-key-3 : goal.returns-in_default-key-3
returns-in_default-key-3 c =
    let other = c.in_default-key-3 in
    let u = c.in-FollowFrom in
    sym (ap (λ (u : Usual). text_at c.args.key.now (usual_data u)) u.is
    ∙ from_texts c.args.key.now u.cmd u.board u.spectator u.from other.not-cmd other.not-board)
