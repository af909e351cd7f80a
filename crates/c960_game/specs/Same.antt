-- When two positions are the same, for claims and for fivefold repetition (FIDE Laws, Articles 9.2, 9.6.1).
use Rattle.std.specs.Prelude.{◌≡◌, ◌↔◌}
use Rattle.c960_board.specs.declared.parts.Parts.{Parts}
use Rattle.c960_board.specs.Moves.{Triple}
use Rattle.c960_rules.specs.Legal.{LegalEnPassant}

-- The side to move, the placement and the rights are equal, and the same captures en passant are legal. A target on which
-- nothing can legally be captured does not matter.
pub record Same (p q : Parts) : Type 0 where
  pub turn : p.turn ≡ q.turn
  pub placement : p.placement ≡ q.placement
  pub rights : p.rights ≡ q.rights
  pub captures : (m : Triple) → LegalEnPassant p m ↔ LegalEnPassant q m
