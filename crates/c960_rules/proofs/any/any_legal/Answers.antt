use Rattle.std.proofs.Common.{ap, subst, sym, ◌∙◌}
use Rattle.std.proofs.lemmas.Bool.{both_ways}
use Rattle.c960_board.specs.declared.piece.Colour.{Colour}
use Rattle.c960_board.specs.declared.parts.Parts.{Parts}
use Rattle.c960_board.specs.Moves.{Triple}
use Rattle.c960_board.specs.Pieces.{is_of}
use Rattle.c960_board.specs.Cells.{cell_at}
use Rattle.c960_rules.specs.Legal.{Legal}
use Rattle.c960_rules.specs.Inner.Listing.{triple, HasMoveFrom}
use Rattle.c960_rules.specs.Inner.Wheres.{where_set}
use Rattle.c960_rules.proofs.AnyFacts.{no_move}
use Rattle.c960_rules.proofs.ListFacts.{goes_from_own}
use Rattle.c960_rules.proofs.lemmas.PieceFacts.{piece_on}
use Rattle.c960_rules.proofs.SetLoops.{searched_more, searched_all}
use Rattle.c960_rules.proofs.WhereFacts.{in_where}
use Rattle.c960_rules.proofs.any.any_legal.Goals as goal

pub loop-left-init : goal.loop-left-init
loop-left-init c =
    let p = c.position-position.result in
    let own = c.squares_of-left.result in
    let side = c.squares_of-left.ensures ∙ ap (λ (d : Colour). where_set (λ s. is_of d (cell_at p.placement s))) c.turn-turn.ensures in
    λ s l e w.
    both_ways (is_of p.turn (piece_on p s)) (sym (in_where (λ u. is_of p.turn (cell_at p.placement u)) own s side l) ∙ e)
    (goes_from_own p (triple s w.to w.between.promotion) w.between.legal.goes)

pub loop-left-preserved : goal.loop-left-preserved
loop-left-preserved c =
    let p = c.position-position.result in
    let k = c.lowest-from.result in
    searched_more (HasMoveFrom p) c.loop-left.left k c.without_lowest-left.result (c.without_lowest-left.ensures.taken_out _ c.lowest-from.ensures.lowest) c.loop-left.invariant
    (λ h. both_ways c.has_move_from.result c.if-has_move_from.false (c.has_move_from.ensures.1 h))

pub returns : goal.returns
returns c =
    let p = c.position-position.result in (
      (λ e. cc),
      (λ h. absurd (no_move p (λ s l. c.loop-left.invariant s l (searched_all c.loop-left.left s c.loop-left-test.false))
          (subst (λ (q : Parts). (m : Triple) × Legal q m) (sym c.position-position.ensures.value) h))),
    )
