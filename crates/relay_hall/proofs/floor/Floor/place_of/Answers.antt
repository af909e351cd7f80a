use Rattle.std.proofs.Common.{List, ℕ, is_some, sym, ap, ◌∙◌}
use Rattle.std.proofs.lemmas.Option.{IfSome_then}
use Rattle.std.specs.List.{position}
use Rattle.std.specs.Map.{keys_of, lookup}
use Rattle.relay_core.specs.Name.{same_name}
use Rattle.relay_hall.proofs.Floors.{board_shown, keys_shown, taken_shown}
use Rattle.relay_hall.proofs.floor.Floor.place_of.Goals as goal

pub returns-clause-index : goal.returns-clause-index
returns-clause-index c =
    let a = c.self.inside in
    rw (← c.self.view_is)
    (c.get_index_of.ensures.index
    ∙ ap (λ (n : List ℕ). position (same_name n) (keys_of a.boards.entries)) c.of.ensures
    ∙ ap (position (same_name c.args.name.now)) (sym (keys_shown a.boards.entries)))

pub returns-clause-found : goal.returns-clause-found
returns-clause-found c =
    let a = c.self.inside in
    rw (← c.self.view_is)
    (c.get_index_of.ensures.found
    ∙ ap (λ (n : List ℕ). is_some (lookup (same_name n) a.boards.entries)) c.of.ensures
    ∙ taken_shown c.args.name.now a.boards.entries)

pub returns-clause-board : goal.returns-clause-board
returns-clause-board c =
    let a = c.self.inside in
    rw (← c.self.view_is)
    (IfSome_then c.get_index_of.result c.get_index_of.ensures.value
    (λ at found. board_shown c.args.name.now a.boards.entries at (found ∙ ap (λ (n : List ℕ). lookup (same_name n) a.boards.entries) c.of.ensures)))
