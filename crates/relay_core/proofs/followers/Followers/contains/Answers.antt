use Rattle.std.proofs.Common.{is_some, sym, ap, ◌∙◌}
use Rattle.relay_core.proofs.lemmas.Orders.{reads}
use Rattle.relay_core.proofs.followers.Followers.contains.Goals as goal

pub returns : goal.returns
returns c = rw (← c.self.view_is)
    (c.contains_key.ensures ∙ ap is_some (sym (reads c.self.inside.order.spectators c.self.inside.seats.entries c.self.invariant.ordered c.args.who)))
