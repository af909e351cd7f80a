-- The position after a move, from its sets.
use Rattle.std.proofs.Common.{◌≡◌, ℕ, Bool, true, Option, refl, ap, sym, ◌∙◌, inl, inr}
use Rattle.std.proofs.lemmas.Bool.{both_ways}
use Rattle.c960_board.specs.declared.piece.Colour.{Colour}
use Rattle.c960_board.specs.declared.rights.CastlingRights.{CastlingRights}
use Rattle.c960_board.specs.declared.parts.Parts.{Parts}
use Rattle.c960_board.specs.declared.sets.Sets.{Sets}
use Rattle.c960_board.specs.Moves.{Triple}
use Rattle.c960_board.specs.Pieces.{other, is_of}
use Rattle.c960_board.specs.Sets.{sets_of, cells_of, parts_of}
use Rattle.c960_board.proofs.lemmas.SetCells.{cells_back}
use Rattle.c960_rules.specs.After.{placement_after, target_after, half_moves_after, number_after, after}
use Rattle.c960_rules.specs.Castles.{Castles}
use Rattle.c960_rules.specs.Legal.{Legal}
use Rattle.c960_rules.proofs.lemmas.PieceFacts.{piece_on, goes_to_own}
use Rattle.c960_rules.proofs.lemmas.AfterFacts.{full_after, all_rights_after}

-- whether the goal holds a piece of the side, by way of what the code has read
pub to_own : (p : Parts) (m : Triple) (b : Bool) (c : Colour) (s : ℕ) → b ≡ is_of c (piece_on p s) → c ≡ p.turn → s ≡ m.to
    → b ≡ goes_to_own p m
to_own p m b c s e same there = rw (← same, ← there) e

-- a legal move to a piece of the mover's is castling
pub own_castles : (p : Parts) (m : Triple) → Legal p m → goes_to_own p m ≡ true → Castles p m
own_castles p m legal own =
    elim legal.goes [
      | inl r ↦ absurd (both_ways (goes_to_own p m) r.goal own)
      | inr r ↦ r
    ]

-- the sets of the placement after a move describe it
pub cells_after : (p : Parts) (m : Triple) (s : Sets) → s ≡ sets_of (placement_after p m) → cells_of s ≡ placement_after p m
cells_after p m s e = ap cells_of e ∙ cells_back (placement_after p m) (full_after p m)

pub placed_after : (p : Parts) (m : Triple) (s : Sets) → s ≡ sets_of (placement_after p m) → s ≡ sets_of (cells_of s)
placed_after p m s e = e ∙ ap sets_of (sym (cells_after p m s e))

-- the position after the move
pub parts_after : (p : Parts) (m : Triple) (s : Sets) (turn : Colour) (rights : CastlingRights) (target : Option ℕ) (half_moves number : ℕ)
    → s ≡ sets_of (placement_after p m) → turn ≡ other p.turn → rights ≡ all_rights_after p m → target ≡ target_after p m
    → half_moves ≡ half_moves_after p m → number ≡ number_after p.turn p.number
    → parts_of s turn rights target half_moves number ≡ after p m
unfolding after
parts_after p m s turn rights target half_moves number es et er eg eh en =
    let cells = cells_after p m s es in
    rw (cells, et, er, eg, eh, en) refl
