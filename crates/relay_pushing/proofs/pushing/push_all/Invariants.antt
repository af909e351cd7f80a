use Rattle.std.proofs.Common.{◌≤◌}
use Rattle.relay_pushing.specs.Pushing.{Going}
use Rattle.relay_pushing.proofs.pushing.push_all.Given as goal

abbrev pub invariant-loop : goal.invariant-loop
invariant-loop g l = record {
  can : (goal.iterator-loop g).can_next l.iterator';
  finite : (goal.iterator-loop g).is_finite l.iterator';
  going : Going g.S.Source.gives l.fn.source l.source (g.O.Outlet.sent l.fn.outlet) (g.O.Outlet.sent l.outlet);
  kept : g.O.Outlet.failures l.fn.outlet ≤ g.O.Outlet.failures l.outlet;
}
