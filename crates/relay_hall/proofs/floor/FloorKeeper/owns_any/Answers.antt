use Rattle.std.proofs.Common.{sym, ◌∙◌}
use Rattle.relay_hall.specs.Keys.{is_owner}
use Rattle.relay_hall.specs.Hosting.{shown_board}
use Rattle.relay_hall.proofs.Owned.{any_shown}
use Rattle.relay_hall.proofs.floor.FloorKeeper.owns_any.Goals as goal

pub returns : goal.returns
returns c =
    let a = c.self.inside in
    rw (← c.self.view_is)
    (c.owns_any.ensures ∙ sym (any_shown (λ b. is_owner a.speaker.key b.owner.key) shown_board a.boards.entries))
