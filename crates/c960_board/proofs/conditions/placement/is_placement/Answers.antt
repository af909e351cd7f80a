use Rattle.std.proofs.Common.{rules}
use Rattle.c960_board.specs.declared.piece.Colour.TheVariants.{White, Black}
use Rattle.c960_board.proofs.lemmas.Colours.{placement_of, side_of}
use Rattle.c960_board.proofs.conditions.placement.is_placement.Goals as goal

pub returns-then-is_side : goal.returns-then-is_side
returns-then-is_side c = (
  λ black. placement_of _ c.told-placement (c.is_side.ensures.0 (search rules)) (c.is_side-then-is_side.ensures.0 black),
  λ placement. c.is_side-then-is_side.ensures.1 (side_of _ Black placement),
)

pub returns-else-is_side : goal.returns-else-is_side
returns-else-is_side c = (λ white. absurd (search rules), λ placement. c.is_side.ensures.1 (side_of _ White placement))
