use Rattle.std.proofs.Common.{subst}
use Rattle.relay_hall.specs.Record.{HallRecord}
use Rattle.relay_service.specs.Following.Pushing.{CatchesUp}
use Rattle.relay_service.proofs.FollowingFacts.Pushes.{finished_err, finished_ok, in_all}
use Rattle.relay_service.proofs.following.delivery.Delivery.push.Goals as goal

pub returns-clause-ok : goal.returns-clause-ok
returns-clause-ok c =
    let f = c.args.hall.now.floor in
    let g = c.go_on-round in
    let u = c.catch_up-round in
    let caught = subst (λ (k : HallRecord). CatchesUp g.result.is_put k.floor c.args.most g.result g.new.self u.new.self u.result) g.ensures.hall u.ensures.caught_up in
    finished_ok c.args.most f c.args.is_ending c.args.self.now u.new.self c.finish.new.self u.result (in_all c.args.most f _ c.args.self.now g.new.self u.new.self g.result u.result g.ensures.went caught)
    c.finish.result c.finish.ensures.ok

pub returns-clause-err : goal.returns-clause-err
returns-clause-err c =
    let f = c.args.hall.now.floor in
    let g = c.go_on-round in
    let u = c.catch_up-round in
    let caught = subst (λ (k : HallRecord). CatchesUp g.result.is_put k.floor c.args.most g.result g.new.self u.new.self u.result) g.ensures.hall u.ensures.caught_up in
    finished_err c.args.most f c.args.is_ending c.args.self.now u.new.self c.finish.new.self u.result (in_all c.args.most f _ c.args.self.now g.new.self u.new.self g.result u.result g.ensures.went caught)
    c.finish.result c.finish.ensures.err
