use Rattle.std.proofs.Common.{◌&&◌, ◌∙◌, ap}
use Rattle.c960_board.specs.declared.piece.Colour.{Colour}
use Rattle.c960_board.specs.declared.piece.Kind.TheVariants.{Rook}
use Rattle.c960_board.specs.Pieces.{is_of}
use Rattle.c960_board.specs.Cells.{cell_at}
use Rattle.c960_board.specs.Sets.{is_kind}
use Rattle.c960_rules.specs.Inner.Wheres.{where_set, is_free, is_rook_line}
use Rattle.c960_rules.proofs.AttackerFacts.{kind_where}
use Rattle.c960_rules.proofs.CastlingSight.{none_out_of_sight}
use Rattle.c960_rules.proofs.WhereFacts.{where_and, occupied_where}
use Rattle.c960_rules.proofs.goals.rooks_in_sight.Goals as goal

pub returns : goal.returns
returns c =
    let p = c.args.position.now in
    let s = c.args.from in
    let occupied = c.occupied.result in
    let valid = c.sets-sets.ensures.valid in
    let n = c.number-bound.ensures in
    let same = n.value in
    let bound = rw same at n.bound in
    let side = c.squares_of.ensures ∙ ap (λ (d : Colour). where_set (λ u. is_of d (cell_at p.placement u))) c.turn-turn.ensures in
    let rooks =
    where_and (λ u. is_of p.turn (cell_at p.placement u)) (λ u. is_kind Rook (cell_at p.placement u)) _ _ side
    (kind_where p c.sets-sets.result valid c.sets-sets.ensures.value Rook) in
    let seen =
    where_and (λ u. is_of p.turn (cell_at p.placement u) && is_kind Rook (cell_at p.placement u))
    (λ u. is_rook_line s u && is_free occupied s u) _ _ rooks c.straight.ensures in
    λ t k l e. none_out_of_sight p s t _ occupied k valid (occupied_where p valid c.occupied.ensures.set) seen bound l e
