use Rattle.std.proofs.Common.{◌&&◌, ◌||◌}
use Rattle.c960_board.specs.declared.piece.Kind.TheVariants.{Pawn, Knight, King}
use Rattle.c960_board.specs.Pieces.{is_of}
use Rattle.c960_board.specs.Cells.{cell_at}
use Rattle.c960_board.specs.Sets.{is_kind}
use Rattle.c960_rules.specs.Inner.Wheres.{is_knight_leap, is_king_step, is_pawn_hit}
use Rattle.c960_rules.proofs.WhereFacts.{where_and, where_or}
use Rattle.c960_rules.proofs.AttackerFacts.{kind_where}
use Rattle.c960_rules.proofs.attack_sets.leapers.Goals as goal

pub returns : goal.returns
returns c =
    let p = c.args.position.now.placement in
    let by = c.args.by in
    let t = c.args.square in
    let kind = kind_where c.args.position.now c.sets-sets.result c.sets-sets.ensures.valid c.sets-sets.ensures.value in
    let knights = where_and (λ s. is_knight_leap s t) (λ s. is_kind Knight (cell_at p s)) _ _ c.knight_leaps.ensures.to (kind Knight) in
    let kings = where_and (λ s. is_king_step s t) (λ s. is_kind King (cell_at p s)) _ _ c.king_steps.ensures.to (kind King) in
    let pawns = where_and (λ s. is_pawn_hit by s t) (λ s. is_kind Pawn (cell_at p s)) _ _ c.pawn_hits_on.ensures (kind Pawn) in
    let two =
    where_or (λ s. is_knight_leap s t && is_kind Knight (cell_at p s)) (λ s. is_king_step s t && is_kind King (cell_at p s)) _ _
    knights kings in
    let three =
    where_or
    (λ s. (is_knight_leap s t && is_kind Knight (cell_at p s)) || (is_king_step s t && is_kind King (cell_at p s)))
    (λ s. is_pawn_hit by s t && is_kind Pawn (cell_at p s)) _ _ two pawns in
    where_and (λ s. is_of by (cell_at p s))
    (λ s. ((is_knight_leap s t && is_kind Knight (cell_at p s)) || (is_king_step s t && is_kind King (cell_at p s)))
    || (is_pawn_hit by s t && is_kind Pawn (cell_at p s))) _ _ c.squares_of-side.ensures three
