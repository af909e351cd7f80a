use Rattle.std.proofs.Common.{ap, ◌∙◌}
use Rattle.c960_board.specs.declared.piece.Colour.{Colour}
use Rattle.c960_board.specs.declared.piece.Kind.TheVariants.{Pawn}
use Rattle.c960_board.specs.Pieces.{holds}
use Rattle.c960_board.specs.Cells.{cell_at}
use Rattle.c960_board.specs.Sets.{set_of}
use Rattle.c960_rules.specs.Inner.Wheres.{where_set, is_pawn_hit}
use Rattle.c960_rules.proofs.WhereFacts.{where_and, set_where}
use Rattle.c960_rules.proofs.en_passant.takers.Goals as goal

pub returns : goal.returns
returns c =
    let p = c.args.position.now in
    let t = c.args.target in
    let turn = c.turn-turn.ensures in
    let full = c.sets-sets.ensures.valid.placement.full in
    let hits = c.pawn_hits_on.ensures ∙ ap (λ (d : Colour). where_set (λ s. is_pawn_hit d s t)) turn in
    let pawns =
    c.pieces-pawns.ensures.set ∙ ap (λ (d : Colour). set_of (holds d Pawn) p.placement) turn ∙ set_where (holds p.turn Pawn) p.placement full in
    where_and (λ s. is_pawn_hit p.turn s t) (λ s. holds p.turn Pawn (cell_at p.placement s)) c.pawn_hits_on.result c.pieces-pawns.result hits pawns
