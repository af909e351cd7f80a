use Rattle.std.proofs.Common.{rules}
use Rattle.c960_rules.specs.Inner.Wheres.{is_free}
use Rattle.c960_rules.proofs.WhereFacts.{filtered_none, filtered_in, filtered_out, filtered_all}
use Rattle.c960_rules.proofs.AttackerFacts.{free_is, free_isnt}
use Rattle.c960_rules.proofs.attack_sets.free_from.Goals as goal

pub loop-left-init : goal.loop-left-init
loop-left-init c = filtered_none (λ s. is_free c.args.occupied c.args.square s) c.args.set

pub loop-left-preserved-then-squares_between-occupied-eq0 : goal.loop-left-preserved-then-squares_between-occupied-eq0
loop-left-preserved-then-squares_between-occupied-eq0 c =
    let k = c.lowest-goal.result in
    filtered_in (λ s. is_free c.args.occupied c.args.square s) c.args.set c.loop-left.left c.loop-left.found k
    c.without_lowest-left.result c.only-found.result c.loop-left.invariant (c.without_lowest-left.ensures.taken_out _ c.lowest-goal.ensures.lowest)
    (free_is c.args.occupied c.args.square k c.squares_between.result c.squares_between.ensures
    c.if-squares_between-occupied-eq0.true)
    c.only-found.ensures

pub loop-left-preserved : goal.loop-left-preserved
loop-left-preserved c =
    let k = c.lowest-goal.result in
    filtered_out (λ s. is_free c.args.occupied c.args.square s) c.args.set c.loop-left.left c.loop-left.found k
    c.without_lowest-left.result c.loop-left.invariant (c.without_lowest-left.ensures.taken_out _ c.lowest-goal.ensures.lowest)
    (free_isnt c.args.occupied c.args.square k c.squares_between.result c.squares_between.ensures
    c.if-squares_between-occupied-eq0.false)

pub returns : goal.returns
returns c = filtered_all (λ s. is_free c.args.occupied c.args.square s) c.args.set c.loop-left.left c.loop-left.found (search rules) c.loop-left-test.false c.loop-left.invariant
