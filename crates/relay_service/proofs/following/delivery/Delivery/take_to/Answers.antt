use Rattle.std.proofs.Common.{rules, arith}
use Rattle.relay_service.proofs.FollowingFacts.Pushes.{err_of, lost_then, stops_then, takes_then}
use Rattle.relay_service.proofs.following.delivery.Delivery.take_to.Goals as goal

pub returns-in_err-take_one-clause-err : goal.returns-in_err-take_one-clause-err
returns-in_err-take_one-clause-err c =
    err_of c.args.most c.from_residual.result
    (lost_then c.args.most c.args.limit c.args.self.now c.loop-place.self c.take_one.new.self c.loop-place.invariant.delivers c.in_err-take_one.ensures.err)

pub returns-then-not-branch-clause-ok : goal.returns-then-not-branch-clause-ok
returns-then-not-branch-clause-ok c =
    stops_then c.args.most c.args.limit c.args.self.now c.loop-place.self c.take_one.new.self c.loop-place.invariant.delivers c.in_ok-take_one.field-0 c.in_ok-take_one.ensures.ok (search rules)

pub loop-place-preserved : goal.loop-place-preserved
loop-place-preserved c =
    let x = takes_then c.args.most c.args.limit c.args.self.now c.loop-place.self c.take_one.new.self c.loop-place.invariant.delivers c.in_ok-take_one.field-0 c.in_ok-take_one.ensures.ok (search rules) in
    let at = c.loop-place.invariant.at in
    let next = x.1 in
    record { delivers = x.0; follows = c.in_ok-take_one.ensures.stage; at = omega (arith, at, next) }
