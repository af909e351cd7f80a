use Rattle.relay_hall.proofs.hall.Hall.place_of.Goals as goal

pub returns-clause-reached : goal.returns-clause-reached
returns-clause-reached c = rw (← c.self.view_is) c.self.invariant.reached
