use Rattle.std.proofs.Common.{List, ℕ, sym, ◌∙◌}
use Rattle.std.proofs.lemmas.List.{length-map}
use Rattle.relay_hall.specs.Record.{HallBoard}
use Rattle.relay_hall.specs.Hosting.{shown_board}
use Rattle.relay_hall.proofs.floor.Floor.len.Goals as goal

pub returns : goal.returns
returns c =
    let a = c.self.inside in
    rw (← c.self.view_is)
    (c.len.ensures.len ∙ sym (length-map {B = List ℕ × HallBoard} a.boards.entries (λ e. (e.0, shown_board e.1))))
