use Rattle.std.proofs.Common.{◌≡◌, ◌∙◌, ℕ, nat_eq, cond, is_some, Some, None, sym, refl, ap, inl, inr, subst}
use Rattle.std.specs.Map.{lookup}
use Rattle.std.specs.Prelude.{IsSome}
use Rattle.indexmap.specs.Entry.{MatchEntry, entry_key, entry_map_ref, entry_value, map_with_value}
use Rattle.indexmap.specs.IndexMap.{get_key}
use Rattle.relay_core.proofs.lemmas.Orders.{one_more, pushed, reads}
use Rattle.relay_live.proofs.seats.Seats.insert.Goals.{After-self-2-1}
use Rattle.relay_live.proofs.seats.Seats.insert.Goals as goal

-- nobody was found
none : (c : After-self-2-1) → lookup (nat_eq c.args.who) c.self.inside.places.entries ≡ None
unfolding entry_value
none c = sym c.in-Ok.ensures.value ∙ ap entry_value c.in-Vacant.is

-- what is found now
updates : (c : After-self-2-1) → (q : ℕ) → lookup (nat_eq q) c.self-in-Vacant-2-1.given.0.entries
    ≡ cond (nat_eq c.args.who q) (Some c.args.seated) (lookup (nat_eq q) c.self.inside.places.entries)
updates c q =
    let here = sym (ap (λ e. (entry_map_ref e).ghost_name) (sym c.in-Vacant.is) ∙ c.in-Ok.ensures.same_map) in
    let now = c.self-in-Vacant-2-1.given.1 here ∙ (λ i. map_with_value (sym c.in-Vacant.is i) (c.insert.ensures.value i)) in
    ap (λ m. lookup (nat_eq q) m.entries) now ∙ (c.in-Ok.ensures.update.0 c.args.seated).0 q

pub returns-in_default-clause-ground : goal.returns-in_default-clause-ground
returns-in_default-clause-ground c = rw (← c.self.view_is)
    (inr (reads c.self.inside.order.spectators c.self.inside.places.entries c.self.invariant c.args.who ∙ c.in_default.ensures.absent, refl))

pub returns-in-Occupied-clause-ground : goal.returns-in-Occupied-clause-ground
returns-in-Occupied-clause-ground c =
    let there : IsSome (lookup (nat_eq c.args.who) c.self.inside.places.entries) × (get_key nat_eq c.self.inside.places c.args.who ≡ Some (entry_key c.in-Ok.entry)) =
    subst (λ e. MatchEntry e (IsSome (lookup (nat_eq c.args.who) c.self.inside.places.entries) × (get_key nat_eq c.self.inside.places c.args.who ≡ Some (entry_key c.in-Ok.entry)))
    (lookup (nat_eq c.args.who) c.self.inside.places.entries ≡ None)) c.in-Occupied.is c.in-Ok.ensures.found in
    rw (← c.self.view_is)
    (inl (ap is_some (reads c.self.inside.order.spectators c.self.inside.places.entries c.self.invariant c.args.who) ∙ there.0, refl))

pub invariant_of-self-2 : goal.invariant_of-self-2
invariant_of-self-2 c =
    let out = c.self.invariant.same c.args.who ∙ ap is_some (none c) in
    rw (c.joined-self-inside.ensures)
    (one_more c.self.inside.order.spectators c.self.inside.places.entries _ c.self.invariant c.args.who c.args.seated out (updates c))

pub returns-clause-ok : goal.returns-clause-ok
returns-clause-ok c =
    let out = c.self.invariant.same c.args.who ∙ ap is_some (none c) in
    rw (← c.self.view_is, c.joined-self-inside.ensures) (
      reads c.self.inside.order.spectators c.self.inside.places.entries c.self.invariant c.args.who ∙ none c,
      pushed c.self.inside.order.spectators c.self.inside.places.entries _ c.args.who c.args.seated out (updates c),
    )
