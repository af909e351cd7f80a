use Rattle.std.proofs.Common.{sym, ap, ◌∙◌, List, ℕ}
use Rattle.std.specs.Map.{lookup}
use Rattle.relay_core.specs.Name.{same_name}
use Rattle.relay_hall.proofs.Floors.{owned_none, owned_some}
use Rattle.relay_hall.proofs.floor.FloorKeeper.owns.Goals as goal

pub returns-in-Some : goal.returns-in-Some
returns-in-Some c =
    let a = c.self.inside in
    let found = ap (λ (n : List ℕ). lookup (same_name n) a.boards.entries) (sym c.of.ensures) ∙ sym c.in-Some.ensures.value in
    rw (← c.self.view_is)
    (c.shares_with.ensures ∙ owned_some a.speaker.key c.args.board.now a.boards.entries c.in-Some.hosted.now found)

pub returns-in-None : goal.returns-in-None
returns-in-None c =
    let a = c.self.inside in
    let found = ap (λ (n : List ℕ). lookup (same_name n) a.boards.entries) (sym c.of.ensures) ∙ sym c.in-None.ensures.value in
    rw (← c.self.view_is) (owned_none a.speaker.key c.args.board.now a.boards.entries found)
