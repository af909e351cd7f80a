use Rattle.std.proofs.Common.{rules}
use Rattle.c960_board.specs.declared.piece.Colour.{Colour}
use Rattle.c960_board.specs.declared.piece.Colour.TheVariants.{White, Black}
use Rattle.c960_board.specs.Position.{AreRights}
use Rattle.c960_board.proofs.lemmas.Colours.{each_side}
use Rattle.c960_board.proofs.conditions.rights_fit.Goals as goal

pub returns-then-are_rights : goal.returns-then-are_rights
returns-then-are_rights c = (
  λ black. each_side (λ (k : Colour). AreRights c.args.parts.now.placement c.args.parts.now.rights k) (c.are_rights.ensures.0 (search rules)) (c.are_rights-then-are_rights.ensures.0 black),
  λ both. c.are_rights-then-are_rights.ensures.1 (both Black),
)

pub returns-else-are_rights : goal.returns-else-are_rights
returns-else-are_rights c = (λ white. absurd (search rules), λ both. c.are_rights.ensures.1 (both White))
