use Rattle.std.proofs.Common.{rules}
use Rattle.relay_service.specs.Following.DeliveryInner.{delivery_of}
use Rattle.relay_service.proofs.FollowingFacts.Pushes.{taken_err, taken_ok}
use Rattle.relay_service.proofs.following.delivery.Delivery.take_one.Goals as goal

pub returns-clause-ok : goal.returns-clause-ok
returns-clause-ok c =
    let d = delivery_of c.self.inside in
    let t = c.take-taken in
    rw (← c.self.view_is) (taken_ok c.args.most d c.put_taken.new.self t.new.self.follower t.new.self.stage t.ensures.stays (search rules) t.result c.put_taken.result t.ensures.took c.put_taken.ensures.ok)

pub returns-clause-err : goal.returns-clause-err
returns-clause-err c =
    let d = delivery_of c.self.inside in
    let t = c.take-taken in
    rw (← c.self.view_is) (taken_err c.args.most d c.put_taken.new.self t.new.self.follower t.new.self.stage t.ensures.stays (search rules) t.result c.put_taken.result t.ensures.took c.put_taken.ensures.err)
