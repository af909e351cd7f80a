use Rattle.std.proofs.Common.{is_some, ap, sym, ◌∙◌}
use Rattle.serde_json.specs.Find.{get}
use Rattle.relay_messages.specs.Usual.{usual_data}
use Rattle.relay_messages.specs.declared.object.usual.Usual.{Usual}
use Rattle.relay_messages.proofs.UsualFacts.{follow_keys, from_keys, move_keys, spectator_keys}
use Rattle.relay_messages.proofs.object.UsualObject.has.Goals as goal

pub returns-in_default : goal.returns-in_default
returns-in_default c =
    sym (ap (λ (u : Usual). is_some (get c.args.key.now (usual_data u))) c.in-Spectator.is
    ∙ ap is_some (spectator_keys c.args.key.now c.in-Spectator.cmd c.in-Spectator.spectator c.in_default.not-cmd c.in_default.not-spectator))

pub returns-in_default-matches : goal.returns-in_default-matches
returns-in_default-matches c =
    let other = c.in_default-matches in
    sym (ap (λ (u : Usual). is_some (get c.args.key.now (usual_data u))) c.in-Move.is
    ∙ ap is_some (move_keys c.args.key.now c.in-Move.cmd c.in-Move.board c.in-Move.m other.not-cmd other.not-board other.not-move))

pub returns-in_default-matches-2 : goal.returns-in_default-matches-2
returns-in_default-matches-2 c =
    let other = c.in_default-matches-2 in
    sym (ap (λ (u : Usual). is_some (get c.args.key.now (usual_data u))) c.in-Follow.is
    ∙ ap is_some (follow_keys c.args.key.now c.in-Follow.cmd c.in-Follow.board c.in-Follow.spectator other.not-cmd other.not-board other.not-spectator))

pub returns-in_default-matches-3 : goal.returns-in_default-matches-3
returns-in_default-matches-3 c =
    let other = c.in_default-matches-3 in
    let u = c.in-FollowFrom in
    sym (ap (λ (u : Usual). is_some (get c.args.key.now (usual_data u))) u.is
    ∙ ap is_some (from_keys c.args.key.now u.cmd u.board u.spectator u.from other.not-cmd other.not-board other.not-spectator other.not-from))
