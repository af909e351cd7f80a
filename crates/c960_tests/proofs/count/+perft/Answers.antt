-- The sum stays within that of all moves.
use Rattle.std.proofs.Common.{◌-◌, ◌∙◌}
use native.Mathlib.Omega.{arith}
use Rattle.c960_tests.proofs.PerftFacts.{sum_fits}
use Rattle.c960_tests.proofs.count.+perft.Goals as goal

pub overflow_add-sum : goal.overflow_add-sum
overflow_add-sum t c =
    sum_fits (c.args.plies - 1) c.args.lawful.now c.after.result c.loop-m.m-index c.m-item.result
    c.deref-m-items.result.now c.loop-m.sum c.in_ok-sum.field-0 (omega (arith, c.requires.plies, c.if-plies-eq0.false))
    (c.deref-m-items.ensures.value ∙ c.in_ok-moves.ensures) c.loop-m-test.true c.m-item.is c.after.ensures.value
    c.loop-m.invariant c.in_ok-sum.ensures
