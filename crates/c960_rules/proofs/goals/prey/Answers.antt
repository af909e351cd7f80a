use Rattle.std.proofs.Common.{ℕ, Option, ap, sym, ◌∙◌, ◌&&◌, ◌||◌}
use Rattle.c960_board.specs.declared.piece.Colour.{Colour}
use Rattle.c960_board.specs.Pieces.{other, is_of}
use Rattle.c960_board.specs.Cells.{cell_at}
use Rattle.c960_rules.specs.Reaches.{is_target}
use Rattle.c960_rules.specs.Tests.Reaches.{takes}
use Rattle.c960_rules.specs.Inner.Wheres.{where_set, is_pawn_hit}
use Rattle.c960_rules.proofs.GoalFacts.{prey_is}
use Rattle.c960_rules.proofs.WhereFacts.{where_agree, where_and, where_or}
use Rattle.c960_rules.proofs.goals.prey.Goals as goal

pub returns : goal.returns
returns c =
    let p = c.args.position.now in
    let s = c.args.from in
    let valid = c.sets-sets.ensures.valid in
    let turn = c.turn-turn.ensures in
    let by = c.other.ensures ∙ ap other turn in
    let theirs = c.squares_of-theirs.ensures ∙ ap (λ (d : Colour). where_set (λ u. is_of d (cell_at p.placement u))) by in
    let target = c.target_set-target.ensures ∙ ap (λ (o : Option ℕ). where_set (λ t. is_target o t)) c.target.ensures in
    let hits = c.pawn_hits.ensures ∙ ap (λ (d : Colour). where_set (is_pawn_hit d s)) turn in
    let either =
    where_or (λ t. is_of (other p.turn) (cell_at p.placement t)) (λ t. is_target p.target t) c.squares_of-theirs.result c.target_set-target.result theirs target in
    where_and (is_pawn_hit p.turn s) (λ t. is_of (other p.turn) (cell_at p.placement t) || is_target p.target t) c.pawn_hits.result _ hits either
    ∙ where_agree (λ t. is_pawn_hit p.turn s t && (is_of (other p.turn) (cell_at p.placement t) || is_target p.target t))
    (λ t. takes p.placement p.turn p.target s t) (λ t l. sym (prey_is p s t valid c.requires))
