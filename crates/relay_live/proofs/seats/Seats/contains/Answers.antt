use Rattle.std.proofs.Common.{is_some, sym, ap, ◌∙◌}
use Rattle.relay_core.proofs.lemmas.Orders.{reads}
use Rattle.relay_live.proofs.seats.Seats.contains.Goals as goal

pub returns : goal.returns
returns c = rw (← c.self.view_is)
    (c.contains_key.ensures ∙ ap is_some (sym (reads c.self.inside.order.spectators c.self.inside.places.entries c.self.invariant c.args.who)))
