use Rattle.std.proofs.Common.{arith}
use Rattle.std.proofs.lemmas.Bool.{both_ways}
use Rattle.c960_rules.specs.Inner.Listing.{HasMoveBetween}
use Rattle.c960_rules.proofs.GoalFacts.{none_goes}
use Rattle.c960_rules.proofs.AnyFacts.{no_move_from}
use Rattle.c960_rules.proofs.SetLoops.{searched_more, searched_all}
use Rattle.c960_rules.proofs.WayCandidates.{no_between}
use Rattle.c960_rules.proofs.any.has_move_from.Goals as goal

pub loop-left-init : goal.loop-left-init
loop-left-init c =
    let p = c.args.position.now in
    λ t l e. no_between p c.args.from t
    (none_goes p c.args.from t c.goals-goals.result c.rooks_to_castle.result c.goals-goals.ensures (omega arith) (λ k. c.rooks_to_castle.ensures t k l) l e)

pub loop-left-preserved : goal.loop-left-preserved
loop-left-preserved c =
    let p = c.args.position.now in
    let k = c.lowest-to.result in
    searched_more (HasMoveBetween p c.args.from) c.loop-left.left k c.without_lowest-left.result (c.without_lowest-left.ensures.taken_out _ c.lowest-to.ensures.lowest) c.loop-left.invariant
    (λ h. both_ways c.has_move_between.result c.if-has_move_between.false (c.has_move_between.ensures.1 h))

pub returns : goal.returns
returns c = (
  (λ e. cc),
  (λ h. absurd (no_move_from c.args.position.now c.args.from
      (λ t l. c.loop-left.invariant t l (searched_all c.loop-left.left t c.loop-left-test.false)) h)),
)
