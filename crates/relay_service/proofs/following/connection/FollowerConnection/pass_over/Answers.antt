use Rattle.std.proofs.Common.{Some, ap, ◌∙◌}
use Rattle.relay_service.specs.Following.Calls.{closes}
use Rattle.relay_service.specs.Following.Record.{ConnectionRecord}
use Rattle.relay_service.proofs.FollowingFacts.Served.{served_close, served_either}
use Rattle.relay_service.proofs.following.connection.FollowerConnection.pass_over.Goals as goal

pub invariant_of-self : goal.invariant_of-self
invariant_of-self c =
    let d = c.self.inside.delivery in
    served_either d c.close.new.self (closes d (Some 1008)) c.close.result c.close.ensures.ok c.close.ensures.err c.self.invariant
    (served_close d c.self.invariant (ap (λ (x : ConnectionRecord). x.delivery.stage) c.self.view_is ∙ c.requires) (Some 1008))
