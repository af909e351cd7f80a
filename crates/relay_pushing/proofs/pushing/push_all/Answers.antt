use Rattle.std.proofs.Common.{arith}
use Rattle.relay_pushing.proofs.lemmas.Turns.{flush_failed, going_on, pushed_on, waited_on}
use Rattle.relay_pushing.proofs.pushing.push_all.Goals as goal

pub loop-preserved-in-None-push_next : goal.loop-preserved-in-None-push_next
loop-preserved-in-None-push_next g c = record {
  can = tt;
  finite = tt;
  going = going_on _ _ _ _ _ _ _ c.loop.invariant.going c.in-None-push_next.ensures.pushed;
  kept = omega (arith, c.loop.invariant.kept, c.push_next.ensures.kept);
}

pub loop-preserved-in-Ok : goal.loop-preserved-in-Ok
loop-preserved-in-Ok g c = record {
  can = tt;
  finite = tt;
  going = waited_on _ _ _ _ _ _ _ _ c.loop.invariant.going (rw c.in-Some-Waits.field-0-is at c.in-Some-Waits.ensures.pushed) c.in-Ok.ensures.same;
  kept = omega (arith, c.loop.invariant.kept, c.push_next.ensures.kept, c.in-Ok.ensures.counts.kept);
}

pub returns-in-Err-clause-pushed : goal.returns-in-Err-clause-pushed
returns-in-Err-clause-pushed g c =
    flush_failed _ _ _ _ _ _ _ _ c.in-Err.fault c.loop.invariant.going (rw c.in-Some-Waits.field-0-is at c.in-Some-Waits.ensures.pushed) c.in-Err.ensures.same

pub loop-preserved : goal.loop-preserved
loop-preserved g c = record {
  can = tt;
  finite = tt;
  going = going_on _ _ _ _ _ _ _ c.loop.invariant.going (rw c.in-Some-IsFull.field-0-is at c.in-Some-IsFull.ensures.pushed);
  kept = omega (arith, c.loop.invariant.kept, c.push_next.ensures.kept);
}

pub returns-in-Some-Ended-clause-pushed : goal.returns-in-Some-Ended-clause-pushed
returns-in-Some-Ended-clause-pushed g c =
    pushed_on _ _ _ _ _ _ _ c.in-Some-Ended.end c.loop.invariant.going (rw c.in-Some-Ended.field-0-is at c.in-Some-Ended.ensures.pushed)
