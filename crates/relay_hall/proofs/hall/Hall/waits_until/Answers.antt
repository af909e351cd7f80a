use Rattle.std.proofs.Common.{◌&&◌, not, nat_lt, cond, Some, None, ◌∙◌}
use Rattle.relay_hall.proofs.hall.Hall.waits_until.Goals as goal

pub returns : goal.returns
returns c =
    let a = c.self.inside in
    rw (← c.self.view_is)
    (c.when.ensures ∙ (λ i. cond (c.has_any_of-owns.ensures i && (not a.is_shut && nat_lt a.time (c.saturating_add-until.ensures i))) (Some (c.saturating_add-until.ensures i)) None))
