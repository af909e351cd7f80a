-- The parts described by the sets of a position and its other parts.
use Rattle.std.proofs.Common.{◌≡◌, ℕ, Option}
use Rattle.c960_board.specs.declared.piece.Colour.{Colour}
use Rattle.c960_board.specs.declared.rights.CastlingRights.{CastlingRights}
use Rattle.c960_board.specs.declared.parts.Parts.{Parts}
use Rattle.c960_board.specs.declared.sets.Sets.{Sets}
use Rattle.c960_board.specs.Position.{IsPosition}
use Rattle.c960_board.specs.Sets.{sets_of, parts_of}
use Rattle.c960_board.proofs.lemmas.SetCells.{parts_back}

-- they are the position's
pub parts_told : (p : Parts) (s : Sets) (turn : Colour) (rights : CastlingRights) (target : Option ℕ) (half_moves number : ℕ)
    → IsPosition p → s ≡ sets_of p.placement → turn ≡ p.turn → rights ≡ p.rights → target ≡ p.target
    → half_moves ≡ p.half_moves → number ≡ p.number → parts_of s turn rights target half_moves number ≡ p
parts_told p s turn rights target half_moves number valid placed a b c d e =
    rw (a, b, c, d, e) (parts_back p s valid.placement.full placed)
