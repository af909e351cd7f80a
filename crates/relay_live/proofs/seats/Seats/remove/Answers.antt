use Rattle.std.proofs.Common.{◌≡◌, ◌∙◌, sym, ap, cond, nat_eq, None, rules}
use Rattle.std.specs.Map.{lookup}
use Rattle.std.specs.Set.{remove_key}
use Rattle.relay_core.specs.Held.Order.{in_order}
use Rattle.relay_core.proofs.lemmas.Orders.{are_there, nobody_else, one_less, reads, removed, removed_nobody}
use Rattle.relay_live.proofs.seats.Seats.remove.Goals.{After-from_residual}
use Rattle.relay_live.proofs.seats.Seats.remove.Goals as goal

-- nobody is found
nobody : (c : After-from_residual) → lookup (nat_eq c.args.who) (in_order c.self.inside.order.spectators c.self.inside.places.entries) ≡ None
nobody c =
    reads c.self.inside.order.spectators c.self.inside.places.entries c.self.invariant c.args.who
    ∙ sym c.swap_remove.ensures.value ∙ c.in_err-seated.was

same : (c : After-from_residual) → c.swap_remove.new.self.entries ≡ c.self.inside.places.entries
same c = search rules

pub returns-in_err-seated-clause-value : goal.returns-in_err-seated-clause-value
returns-in_err-seated-clause-value c = rw (← c.self.view_is) (c.from_residual.ensures ∙ sym (nobody c))

pub returns-in_err-seated-clause-updates : goal.returns-in_err-seated-clause-updates
returns-in_err-seated-clause-updates c q = rw (← c.self.view_is, same c)
    (nobody_else (in_order c.self.inside.order.spectators c.self.inside.places.entries) c.args.who q None (nobody c))

pub returns-in_err-seated-clause-entries : goal.returns-in_err-seated-clause-entries
returns-in_err-seated-clause-entries c = rw (← c.self.view_is, same c)
    (sym (removed_nobody (in_order c.self.inside.order.spectators c.self.inside.places.entries) c.args.who (nobody c)))

pub invariant_of-self-2 : goal.invariant_of-self-2
invariant_of-self-2 c = rw (c.left-self-inside.ensures)
    (one_less c.self.inside.order.spectators c.self.inside.places.entries c.swap_remove.new.self.entries c.self.invariant c.args.who
    c.swap_remove.ensures.updates.0)

pub returns-clause-value : goal.returns-clause-value
returns-clause-value c = rw (← c.self.view_is)
    (sym c.in_ok-seated.was ∙ c.swap_remove.ensures.value
    ∙ sym (reads c.self.inside.order.spectators c.self.inside.places.entries c.self.invariant c.args.who))

pub returns-clause-updates : goal.returns-clause-updates
returns-clause-updates c q =
    let later = one_less c.self.inside.order.spectators c.self.inside.places.entries c.swap_remove.new.self.entries c.self.invariant c.args.who
    c.swap_remove.ensures.updates.0 in
    rw (← c.self.view_is, c.left-self-inside.ensures)
    (reads (remove_key (nat_eq c.args.who) c.self.inside.order.spectators) c.swap_remove.new.self.entries later q
    ∙ c.swap_remove.ensures.updates.0 q
    ∙ ap (cond (nat_eq c.args.who q) None) (sym (reads c.self.inside.order.spectators c.self.inside.places.entries c.self.invariant q)))

pub returns-clause-entries : goal.returns-clause-entries
returns-clause-entries c = rw (← c.self.view_is, c.left-self-inside.ensures)
    (removed c.self.inside.order.spectators c.self.inside.places.entries c.swap_remove.new.self.entries c.args.who c.self.invariant.once
    (are_there c.self.inside.order.spectators c.self.inside.places.entries c.self.invariant) c.swap_remove.ensures.updates.0)
