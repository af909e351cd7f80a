use Rattle.std.proofs.Common.{arith}
use Rattle.relay_pushing.proofs.lemmas.Turns.{going_on, turned_on}
use Rattle.relay_pushing.proofs.pushing.push_some.Goals as goal

pub loop-preserved : goal.loop-preserved
loop-preserved g c = record {
  going = going_on _ _ _ _ _ _ _ c.loop.invariant.going c.in_default.ensures.pushed;
  kept = omega (arith, c.loop.invariant.kept, c.push_next.ensures.kept);
}

pub returns-in-Some-clause-turned : goal.returns-in-Some-clause-turned
returns-in-Some-clause-turned g c = turned_on _ _ _ _ _ _ _ c.in-Some.turn c.loop.invariant.going c.in-Some.ensures.pushed
