use Rattle.std.proofs.Common.{◌≡◌, ◌∙◌, ℕ, sym, ap, cond, nat_eq, option_map, None, rules}
use Rattle.std.specs.Map.{lookup}
use Rattle.relay_core.specs.Held.{HeldFollower}
use Rattle.relay_core.specs.Held.Order.{in_order}
use Rattle.relay_core.specs.Inner.Seating.{tags_of}
use Rattle.std.specs.Set.{remove_key}
use Rattle.relay_core.proofs.lemmas.Orders.{are_there, nobody_else, one_less, reads, removed, removed_nobody}
use Rattle.relay_core.proofs.Seatings.{left_tags}
use Rattle.relay_core.proofs.followers.Followers.remove.Goals.{After-from_residual}
use Rattle.relay_core.proofs.followers.Followers.remove.Goals as goal

-- nobody is found
nobody : (c : After-from_residual) → lookup (nat_eq c.args.who) (in_order c.self.inside.order.spectators c.self.inside.seats.entries) ≡ None
nobody c =
    reads c.self.inside.order.spectators c.self.inside.seats.entries c.self.invariant.ordered c.args.who
    ∙ sym c.swap_remove_full.ensures.value ∙ ap (option_map (λ (r : ℕ × ℕ × HeldFollower). r.2)) c.in_err-place.was

same : (c : After-from_residual) → c.swap_remove_full.new.self.entries ≡ c.self.inside.seats.entries
same c = search rules

pub returns-in_err-place-clause-value : goal.returns-in_err-place-clause-value
returns-in_err-place-clause-value c = rw (← c.self.view_is) (c.from_residual.ensures ∙ sym (nobody c))

pub returns-in_err-place-clause-updates : goal.returns-in_err-place-clause-updates
returns-in_err-place-clause-updates c q = rw (← c.self.view_is, same c)
    (nobody_else (in_order c.self.inside.order.spectators c.self.inside.seats.entries) c.args.who q None (nobody c))

pub returns-in_err-place-clause-entries : goal.returns-in_err-place-clause-entries
returns-in_err-place-clause-entries c = rw (← c.self.view_is, same c)
    (sym (removed_nobody (in_order c.self.inside.order.spectators c.self.inside.seats.entries) c.args.who (nobody c)))

pub invariant_of-self-2 : goal.invariant_of-self-2
invariant_of-self-2 c = record {
  ordered = rw (c.left-self-inside.ensures)
      (one_less c.self.inside.order.spectators c.self.inside.seats.entries c.swap_remove_full.new.self.entries c.self.invariant.ordered c.args.who
      c.swap_remove_full.ensures.updates.0);
  tagged = c.swap_remove.ensures.items
      ∙ left_tags c.self.inside.tags.items c.self.inside.seats.entries c.args.who c.in_ok-place.place c.swap_remove.result c.self.invariant.tagged
      (sym c.swap_remove_full.ensures.index ∙ ap (option_map (λ (r : ℕ × ℕ × HeldFollower). r.0)) c.in_ok-place.was)
      ∙ ap tags_of (sym c.swap_remove_full.ensures.entries);
}

pub returns-clause-value : goal.returns-clause-value
returns-clause-value c = rw (← c.self.view_is)
    (sym (ap (option_map (λ (r : ℕ × ℕ × HeldFollower). r.2)) c.in_ok-place.was) ∙ c.swap_remove_full.ensures.value
    ∙ sym (reads c.self.inside.order.spectators c.self.inside.seats.entries c.self.invariant.ordered c.args.who))

pub returns-clause-updates : goal.returns-clause-updates
returns-clause-updates c q =
    let later = one_less c.self.inside.order.spectators c.self.inside.seats.entries c.swap_remove_full.new.self.entries c.self.invariant.ordered c.args.who
    c.swap_remove_full.ensures.updates.0 in
    rw (← c.self.view_is, c.left-self-inside.ensures)
    (reads (remove_key (nat_eq c.args.who) c.self.inside.order.spectators) c.swap_remove_full.new.self.entries later q
    ∙ c.swap_remove_full.ensures.updates.0 q
    ∙ ap (cond (nat_eq c.args.who q) None) (sym (reads c.self.inside.order.spectators c.self.inside.seats.entries c.self.invariant.ordered q)))

pub returns-clause-entries : goal.returns-clause-entries
returns-clause-entries c = rw (← c.self.view_is, c.left-self-inside.ensures)
    (removed c.self.inside.order.spectators c.self.inside.seats.entries c.swap_remove_full.new.self.entries c.args.who c.self.invariant.ordered.once
    (are_there c.self.inside.order.spectators c.self.inside.seats.entries c.self.invariant.ordered) c.swap_remove_full.ensures.updates.0)
