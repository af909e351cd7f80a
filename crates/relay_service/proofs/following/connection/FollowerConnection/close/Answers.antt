use Rattle.std.proofs.Common.{rules, Some}
use Rattle.relay_service.specs.Following.Calls.{closes}
use Rattle.relay_service.proofs.FollowingFacts.Served.{follows_is, served_close, served_either}
use Rattle.relay_service.proofs.following.connection.FollowerConnection.close.Goals as goal

pub invariant_of-self : goal.invariant_of-self
invariant_of-self c =
    let d = c.self.inside.delivery in
    served_either d c.close.new.self (closes d (Some c.args.code.number)) c.close.result c.close.ensures.ok c.close.ensures.err c.self.invariant
    (served_close d c.self.invariant (follows_is d.stage (search rules)) (Some c.args.code.number))
