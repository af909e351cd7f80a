use Rattle.std.proofs.Common.{sym, ap, ◌∙◌, option_map}
use Rattle.relay_core.proofs.lemmas.Orders.{reads}
use Rattle.relay_live.proofs.Maps.{key_at}
use Rattle.relay_live.proofs.seats.Seats.find.Goals as goal

pub returns-in_err-index-clause-seated : goal.returns-in_err-index-clause-seated
returns-in_err-index-clause-seated c = rw (← c.self.view_is)
    (ap (option_map (λ p. p.1.now)) c.from_residual.ensures
    ∙ sym (reads c.self.inside.order.spectators c.self.inside.places.entries c.self.invariant c.args.who
    ∙ sym c.get_full.ensures.value ∙ ap (option_map (λ p. p.2.now)) c.in_err-index.was))

pub returns-clause-seated : goal.returns-clause-seated
returns-clause-seated c = rw (← c.self.view_is)
    (sym (ap (option_map (λ p. p.2.now)) c.in_ok-index.was) ∙ c.get_full.ensures.value
    ∙ sym (reads c.self.inside.order.spectators c.self.inside.places.entries c.self.invariant c.args.who))

pub returns-clause-place : goal.returns-clause-place
returns-clause-place c = rw (← c.self.view_is)
    (key_at c.args.who c.self.inside.places.entries c.in_ok-index.index c.in_ok-index.field-0-1.now c.in_ok-index.seated.now (sym c.in_ok-index.ensures.index) c.in_ok-index.ensures.entry)
