use Rattle.std.proofs.Common.{arith}
use Rattle.c960_board.proofs.SetsBelow.{sets_none, sets_more, sets_same, sets_all}
use Rattle.c960_board.proofs.sets.Sets.of.Goals as goal
use Rattle.c960_board.proofs.sets.Sets.of.Goals.{in-Some, in_default}

pub loop-number-init : goal.loop-number-init
loop-number-init c = rw c.empty-sets.ensures (sets_none c.args.placement.now)

pub loop-number-preserved : goal.loop-number-preserved
loop-number-preserved c =
    let cells = c.args.placement.now in
    let number = c.loop-number.number in
    let sets = c.loop-number.sets in
    let below = c.loop-number.invariant in
    elim c.match-placement-number.branch [
      | in-Some w ↦
          rw (w.sets-is, w.add.ensures, w.known.ensures) (sets_more cells number sets w.in-Some.piece c.loop-number-test.true below w.in-Some.is)
      | in_default w ↦ rw w.sets-is (sets_same cells number sets below w.in_default.is)
    ]

pub returns : goal.returns
returns c = sets_all c.args.placement.now c.loop-number.number c.loop-number.sets (omega arith) c.told-placement c.loop-number.invariant
