use Rattle.relay_hall.proofs.hall.Hall.owns_any.Goals as goal

pub returns-clause-reached : goal.returns-clause-reached
returns-clause-reached c = rw (← c.self.view_is) c.self.invariant.reached
