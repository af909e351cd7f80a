use Rattle.std.proofs.Common.{not, ◌∙◌, ap}
use Rattle.c960_board.specs.declared.piece.Colour.{Colour}
use Rattle.c960_board.specs.Pieces.{is_of}
use Rattle.c960_board.specs.Cells.{cell_at}
use Rattle.c960_rules.specs.Inner.Wheres.{where_set, attacks_over_as}
use Rattle.c960_rules.proofs.GoalFacts.{officers_go}
use Rattle.c960_rules.proofs.WhereFacts.{where_and, where_not}
use Rattle.c960_rules.proofs.goals.officer_goals.Goals as goal

pub returns : goal.returns
returns c =
    let p = c.args.position.now in
    let q = c.args.piece in
    let occupied = c.occupied-occupied.result in
    let side = c.squares_of-own.ensures ∙ ap (λ (d : Colour). where_set (λ u. is_of d (cell_at p.placement u))) c.turn-turn.ensures in
    let off = where_not (λ u. is_of p.turn (cell_at p.placement u)) c.squares_of-own.result side in
    officers_go p c.args.from _ occupied q c.sets-sets.ensures.valid c.requires.there c.requires.own c.requires.officer
    c.occupied-occupied.ensures.set
    (where_and (attacks_over_as occupied q.colour q.kind c.args.from) (λ u. not (is_of p.turn (cell_at p.placement u))) _ _ c.reach_over.ensures off)
