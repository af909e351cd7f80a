-- A move raises each counter by at most one.
use Rattle.std.proofs.Common.{◌≡◌, ℕ, ◌+◌, ◌≤◌, Bool, true, false, ◌||◌, refl, arith, ◌⊎◌, inl, inr}
use Rattle.c960_board.specs.declared.parts.Parts.{Parts}
use Rattle.c960_board.specs.declared.piece.Colour.{Colour}
use Rattle.c960_board.specs.declared.piece.Colour.TheVariants.{White, Black}
use Rattle.c960_board.specs.declared.piece.Kind.TheVariants.{Pawn}
use Rattle.c960_board.specs.Moves.{Triple}
use Rattle.c960_board.specs.Pieces.{other, holds, is_of}
use Rattle.c960_board.specs.Cells.{cell_at}
use Rattle.c960_rules.specs.After.{after, half_moves_after, number_after}

-- the half-move counter is 0 or one more
counted_by : (b : Bool) (n : ℕ) → (elim b as (λ _. ℕ) [ true ↦ 0 | false ↦ n + 1 ] ≡ 0)
    ⊎ (elim b as (λ _. ℕ) [ true ↦ 0 | false ↦ n + 1 ] ≡ n + 1)
counted_by true n = inl refl
counted_by false n = inr refl

pub counted : (p : Parts) (m : Triple) → ((after p m).half_moves ≡ 0) ⊎ ((after p m).half_moves ≡ p.half_moves + 1)
unfolding after half_moves_after
counted p m =
    counted_by (holds p.turn Pawn (cell_at p.placement m.from) || is_of (other p.turn) (cell_at p.placement m.to)) p.half_moves

pub half_moves_step : (p : Parts) (m : Triple) → (after p m).half_moves ≤ p.half_moves + 1
half_moves_step p m = elim (counted p m) [ inl e ↦ omega (arith, e) | inr e ↦ omega (arith, e) ]

-- the move number stays, or is one more
number_by : (c : Colour) (n : ℕ) → number_after c n ≤ n + 1
number_by White n = omega arith
number_by Black n = omega arith

pub number_step : (p : Parts) (m : Triple) → (after p m).number ≤ p.number + 1
unfolding after
number_step p m = number_by p.turn p.number
