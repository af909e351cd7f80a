use Rattle.std.proofs.Common.{sym, subst}
use Rattle.relay_hall.specs.Inner.{IsHall}
use Rattle.relay_hall.specs.Record.{FloorState}
use Rattle.relay_hall.proofs.hall.Hall.take_changed.Goals as goal

pub invariant_of-self : goal.invariant_of-self
invariant_of-self c =
    let a = c.self.inside in
    subst (λ (x : FloorState). IsHall (record a { floor = x })) (sym c.take_changed.ensures) c.self.invariant
