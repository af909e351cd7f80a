use Rattle.std.proofs.Common.{rules}
use Rattle.relay_service.proofs.FollowingFacts.Served.{follows_is, served_push}
use Rattle.relay_service.proofs.following.connection.FollowerConnection.push.Goals as goal

pub invariant_of-self : goal.invariant_of-self
invariant_of-self c =
    let d = c.self.inside.delivery in
    served_push c.args.hall.now.floor c.args.most c.args.is_ending d c.push.new.self c.self.invariant (follows_is d.stage (search rules)) c.push.result c.push.ensures.ok c.push.ensures.err
