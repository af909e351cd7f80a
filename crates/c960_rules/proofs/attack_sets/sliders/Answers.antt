use Rattle.std.proofs.Common.{◌&&◌, ◌||◌}
use Rattle.c960_board.specs.declared.piece.Kind.TheVariants.{Bishop, Rook, Queen}
use Rattle.c960_board.specs.Pieces.{is_of}
use Rattle.c960_board.specs.Cells.{cell_at}
use Rattle.c960_board.specs.Sets.{is_kind}
use Rattle.c960_rules.specs.Inner.Wheres.{is_rook_line, is_bishop_line}
use Rattle.c960_rules.proofs.WhereFacts.{where_and, where_or}
use Rattle.c960_rules.proofs.AttackerFacts.{kind_where}
use Rattle.c960_rules.proofs.attack_sets.sliders.Goals as goal

pub returns : goal.returns
returns c =
    let p = c.args.position.now.placement in
    let t = c.args.square in
    let kind = kind_where c.args.position.now c.sets-sets.result c.sets-sets.ensures.valid c.sets-sets.ensures.value in
    let straight =
    where_and (λ s. is_rook_line s t) (λ s. is_kind Rook (cell_at p s) || is_kind Queen (cell_at p s)) _ _ c.rook_lines.ensures.to
    (where_or (λ s. is_kind Rook (cell_at p s)) (λ s. is_kind Queen (cell_at p s)) _ _ (kind Rook) (kind Queen)) in
    let diagonal =
    where_and (λ s. is_bishop_line s t) (λ s. is_kind Bishop (cell_at p s) || is_kind Queen (cell_at p s)) _ _ c.bishop_lines.ensures.to
    (where_or (λ s. is_kind Bishop (cell_at p s)) (λ s. is_kind Queen (cell_at p s)) _ _ (kind Bishop) (kind Queen)) in
    let both =
    where_or (λ s. is_rook_line s t && (is_kind Rook (cell_at p s) || is_kind Queen (cell_at p s)))
    (λ s. is_bishop_line s t && (is_kind Bishop (cell_at p s) || is_kind Queen (cell_at p s))) _ _ straight diagonal in
    where_and (λ s. is_of c.args.by (cell_at p s))
    (λ s. (is_rook_line s t && (is_kind Rook (cell_at p s) || is_kind Queen (cell_at p s)))
    || (is_bishop_line s t && (is_kind Bishop (cell_at p s) || is_kind Queen (cell_at p s)))) _ _ c.squares_of-side.ensures both
