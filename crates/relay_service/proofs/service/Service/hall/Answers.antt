use Rattle.std.proofs.Common.{◌∙◌}
use Rattle.relay_service.proofs.Events.{all_counts, all_left}
use Rattle.relay_service.proofs.service.Service.hall.Goals as goal

pub returns-clause-games : goal.returns-clause-games
returns-clause-games c =
    let b = c.self.invariant.ordered.book in
    rw (← c.self.view_is)
    (λ name board at. (c.whatever_happens.ensures.games c.self.inside.limits.value c.self.inside.grace.value b.events b.told b.history c.self.inside.hall b.run name board at).0)

pub returns-clause-there : goal.returns-clause-there
returns-clause-there c =
    let b = c.self.invariant.ordered.book in
    rw (← c.self.view_is)
    (λ name board at keyless goes_on. all_left board.owner.opener c.self.inside.turns.items b.events b.made
    ∙ c.whatever_happens.ensures.there c.self.inside.limits.value c.self.inside.grace.value b.events b.told b.history c.self.inside.hall b.run b.orderly name board at keyless goes_on)

pub returns-clause-counted : goal.returns-clause-counted
returns-clause-counted c =
    let b = c.self.invariant.ordered.book in
    rw (← c.self.view_is)
    (λ key. c.whatever_happens.ensures.counted c.self.inside.limits.value c.self.inside.grace.value b.events b.told b.history c.self.inside.hall b.run key
    ∙ all_counts key (λ q. 0) c.self.inside.turns.items b.events b.made)
