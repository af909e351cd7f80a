use Rattle.std.proofs.Common.{sym, ap, ◌∙◌, List, eqb, eqb-true}
use Rattle.c960_board.specs.Pieces.{Cell}
use Rattle.c960_board.specs.Sets.{is_occupied, set_of}
use Rattle.c960_game.proofs.SameFacts.{placement_test}
use Rattle.c960_game.proofs.same.same_placement.Goals as goal

pub returns-then-occupied : goal.returns-then-occupied
returns-then-occupied c = placement_test c.same_placement.result c.args.one.now.placement c.args.two.now.placement c.same_placement.ensures

-- placements that are equal have the same occupied squares
pub returns-else-occupied : goal.returns-else-occupied
returns-else-occupied c =
    placement_test (eqb c.occupied.result c.occupied-2.result) c.args.one.now.placement c.args.two.now.placement (
      λ t. absurd (c.if-occupied.false (eqb-true c.occupied.result c.occupied-2.result t)),
      λ e. absurd (c.if-occupied.false (c.occupied.ensures.set ∙ ap (λ (l : List Cell). set_of is_occupied l) e ∙ sym c.occupied-2.ensures.set)),
    )
