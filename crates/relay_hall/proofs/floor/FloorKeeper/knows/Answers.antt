use Rattle.std.proofs.Common.{ap, ◌∙◌, List, ℕ, is_some}
use Rattle.std.specs.Map.{lookup}
use Rattle.relay_core.specs.Name.{same_name}
use Rattle.relay_hall.proofs.Floors.{taken_shown}
use Rattle.relay_hall.proofs.floor.FloorKeeper.knows.Goals as goal

pub returns : goal.returns
returns c =
    let a = c.self.inside in
    rw (← c.self.view_is)
    (c.contains_key.ensures ∙ ap (λ (n : List ℕ). is_some (lookup (same_name n) a.boards.entries)) c.of.ensures ∙ taken_shown c.args.board.now a.boards.entries)
