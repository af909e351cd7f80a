use Rattle.std.proofs.Common.{rules, refl}
use Rattle.relay_service.specs.Following.Calls.{puts}
use Rattle.relay_service.specs.Following.Pieces.{a_ping}
use Rattle.relay_service.proofs.FollowingFacts.Served.{follows_is, served_either, served_piece}
use Rattle.relay_service.proofs.following.connection.FollowerConnection.ping.Goals as goal

pub invariant_of-self : goal.invariant_of-self
invariant_of-self c =
    let d = c.self.inside.delivery in
    served_either d c.put_ping.new.self (puts d a_ping) c.put_ping.result c.put_ping.ensures.ok c.put_ping.ensures.err c.self.invariant
    (served_piece d c.self.invariant (follows_is d.stage (search rules)) a_ping tt refl)
