use Rattle.std.proofs.Common.{Some, refl, ap, ◌∙◌}
use Rattle.relay_frames.specs.Events.{number_of}
use Rattle.relay_service.specs.Following.Calls.{closes, puts}
use Rattle.relay_service.specs.Following.Pieces.{a_pong}
use Rattle.relay_service.specs.Following.Record.{ConnectionRecord}
use Rattle.relay_service.proofs.FollowingFacts.Served.{served_close, served_either, served_piece}
use Rattle.relay_service.proofs.following.connection.FollowerConnection.meet.Goals as goal

pub invariant_of-self : goal.invariant_of-self
invariant_of-self c =
    let d = c.self.inside.delivery in
    let p = a_pong c.as_slice.result.now in
    served_either d c.put_pong.new.self (puts d p) c.put_pong.result c.put_pong.ensures.ok c.put_pong.ensures.err c.self.invariant
    (served_piece d c.self.invariant (ap (λ (x : ConnectionRecord). x.delivery.stage) c.self.view_is ∙ c.requires) p tt refl)

pub invariant_of-self-in-Closed-1 : goal.invariant_of-self-in-Closed-1
invariant_of-self-in-Closed-1 c =
    let d = c.self-in-Closed.inside.delivery in
    let number = number_of c.in-Closed.code in
    served_either d c.close.new.self (closes d number) c.close.result c.close.ensures.ok c.close.ensures.err c.self-in-Closed.invariant
    (served_close d c.self-in-Closed.invariant (ap (λ (x : ConnectionRecord). x.delivery.stage) c.self-in-Closed.view_is ∙ c.requires) number)

pub invariant_of-self-in-Broken-1 : goal.invariant_of-self-in-Broken-1
invariant_of-self-in-Broken-1 c =
    let d = c.self-in-Broken.inside.delivery in
    let number = Some c.code.result.number in
    served_either d c.close-in-Broken.new.self (closes d number) c.close-in-Broken.result c.close-in-Broken.ensures.ok c.close-in-Broken.ensures.err c.self-in-Broken.invariant
    (served_close d c.self-in-Broken.invariant (ap (λ (x : ConnectionRecord). x.delivery.stage) c.self-in-Broken.view_is ∙ c.requires) number)
