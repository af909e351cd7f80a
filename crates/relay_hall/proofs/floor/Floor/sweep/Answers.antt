use Rattle.std.proofs.Common.{List, ℕ, ap, ◌∙◌}
use Rattle.std.specs.HashMap.{spare}
use Rattle.relay_hall.specs.Hosting.{rows}
use Rattle.relay_hall.specs.Inner.{state_of}
use Rattle.relay_hall.specs.Record.{HallBoard}
use Rattle.relay_hall.proofs.Sweeps.{rows_left, sweep_lives}
use Rattle.relay_hall.proofs.floor.Floor.sweep.Goals as goal

pub invariant_of-self : goal.invariant_of-self
invariant_of-self g c =
    let a = c.self.inside in
    let e = c.end_where.ensures in
    sweep_lives a.limits (g.L.Leaver.gone c.args.left.now) a.boards.entries c.end_where.new.boards.entries (spare a.boards) (spare c.end_where.new.boards) e.ended
    (e.kept a.limits c.self.invariant.kept) e.room c.self.invariant

pub returns-clause-floor : goal.returns-clause-floor
returns-clause-floor g c =
    let a = c.self.inside in
    rw (← c.self.view_is)
    (ap (λ (bs : List (List ℕ × HallBoard)). record ((state_of a).floor) { boards = bs }) (ap rows c.end_where.ensures.ended ∙ rows_left (g.L.Leaver.gone c.args.left.now) a.boards.entries))
