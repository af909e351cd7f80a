use Rattle.std.proofs.Common.{rules}
use Rattle.relay_service.proofs.FollowingFacts.Pushes.{goes_on}
use Rattle.relay_service.proofs.following.delivery.Delivery.go_on.Goals as goal

pub returns-clause-went : goal.returns-clause-went
returns-clause-went c =
    let t = c.take_to in
    goes_on c.args.most c.args.hall.now.floor c.args.limit c.args.self.now t.new.self c.meet-outcome.new.self c.requires.is_in _ t.ensures.stage c.meet-outcome.ensures.met t.result t.ensures.ok t.ensures.err (search rules)
