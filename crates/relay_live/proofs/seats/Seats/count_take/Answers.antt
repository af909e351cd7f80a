use Rattle.std.proofs.Common.{◌≡◌, ℕ, sym, subst, nat_eq, Option}
use Rattle.std.specs.Cmp.{nat_eq_equiv}
use Rattle.std.specs.Map.{set_value}
use Rattle.std.specs.Option.{IfSome}
use Rattle.std.proofs.lemmas.Map.Entries.{lookup_from_place}
use Rattle.indexmap.proofs.CallerLemmas.{keys-with_value_at, updates-with_value_at}
use Rattle.indexmap.specs.IndexMap.{with_value_at}
use Rattle.relay_core.specs.Held.Order.{in_order}
use Rattle.relay_core.proofs.lemmas.Orders.{changed_there, keys_kept}
use Rattle.relay_live.specs.declared.seated.Seated.{Seated}
use Rattle.relay_live.specs.Live.{with_one_more}
use Rattle.relay_live.proofs.seats.Seats.count_take.Goals as goal

pub invariant_of-self : goal.invariant_of-self
invariant_of-self c =
    keys_kept c.self.inside.order.spectators c.self.inside.places.entries _ c.self.invariant
    (keys-with_value_at c.self.inside.places c.args.index (with_one_more c.pair_mut-seated.result.1.now))

pub returns-clause-counted : goal.returns-clause-counted
returns-clause-counted c =
    let who = c.pair_mut-seated.result.0.now in
    let f = c.pair_mut-seated.result.1.now in
    let at = c.pair_mut-seated.ensures in
    let es = c.self.inside.places.entries in
    let order = c.self.inside.order.spectators in
    let now = (with_value_at c.self.inside.places c.args.index (with_one_more f)).entries in
    let here = lookup_from_place nat_eq_equiv es c.args.index who f at.unique at.value in
    rw (← c.self.view_is) (subst (λ (o : Option (ℕ × Seated)). IfSome o (λ e. in_order order now ≡ set_value (nat_eq e.0) (in_order order es) (with_one_more e.1))) (sym at.value)
    (changed_there order es now who f (with_one_more f) c.self.invariant.once here
    (updates-with_value_at c.self.inside.places c.args.index (with_one_more f) nat_eq_equiv at.unique who f at.value).0))
