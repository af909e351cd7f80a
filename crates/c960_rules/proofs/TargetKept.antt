-- The target that a double step leaves.
use Rattle.std.proofs.Common.{◌≡◌, ◌≢◌, ℕ, ◌<◌, List, Bool, true, false, ◌&&◌, refl, ◌∙◌, ap, arith, Option, Some, None, inl, inr}
use Rattle.std.specs.Prelude.{◌==◌}
use Rattle.std.proofs.lemmas.Bool.{and_parts, eqb-true}
use Rattle.c960_board.specs.declared.piece.Colour.{Colour}
use Rattle.c960_board.specs.declared.piece.Colour.TheVariants.{White, Black}
use Rattle.c960_board.specs.declared.piece.Kind.TheVariants.{Pawn}
use Rattle.c960_board.specs.declared.parts.Parts.{Parts}
use Rattle.c960_board.specs.Squares.{rank_of, ahead}
use Rattle.c960_board.specs.Pieces.{Cell, man, other, holds}
use Rattle.c960_board.specs.Position.{target_rank, IsTarget}
use Rattle.c960_board.specs.Cells.{cell_at}
use Rattle.c960_board.specs.Moves.{Triple, IsMove}
use Rattle.c960_rules.specs.Lines.{rank_distance}
use Rattle.c960_rules.specs.Reaches.{pawn_rank, last_rank, StepsTwice, GoesAsPawn}
use Rattle.c960_rules.specs.After.{cell_after, target_after}
use Rattle.c960_rules.proofs.lemmas.PieceFacts.{piece_on, goes_to_own, other_other, holds_is}
use Rattle.c960_rules.proofs.CellFacts.{moved_cases, landing}
use Rattle.c960_rules.proofs.PawnFacts.{forward_is_one, double_stops}
use Rattle.c960_rules.proofs.AttackWays.{pawn_way}

-- a double step, and the square that it passes over
pub record IsDouble (p : Parts) (m : Triple) (t : ℕ) : Type 0 where
  pub pawn : piece_on p m.from ≡ man p.turn Pawn
  pub ranks : rank_distance m.from m.to ≡ 2
  pub target : t ≡ ahead p.turn m.from

-- an optional square by a test
some_is : (p : Bool) (s t : ℕ) → elim p as (λ _. Option ℕ) [ true ↦ Some s | false ↦ None ] ≡ Some t
    → (p ≡ true) × (t ≡ s)
some_is true s t h = (refl, cc)
some_is false s t h = cc

-- a target is left by a double step only
pub double : (p : Parts) (m : Triple) (t : ℕ) → target_after p m ≡ Some t → IsDouble p m t
unfolding target_after
double p m t h =
    let test : Bool = holds p.turn Pawn (piece_on p m.from) && (rank_distance m.from m.to == 2) in
    let w = some_is test (ahead p.turn m.from) t h in
    let v = and_parts (holds p.turn Pawn (piece_on p m.from)) (rank_distance m.from m.to == 2) w.0 in
    record {
      pawn = holds_is p.turn Pawn (piece_on p m.from) v.0;
      ranks = eqb-true (rank_distance m.from m.to) 2 v.1;
      target = w.1;
    }

-- one is not two
not_two : (n : ℕ) → n ≡ 1 → n ≡ 2 → ⊥
not_two n h e = omega arith

-- a pawn that goes two ranks away steps twice
stepped_twice : (p : Parts) (m : Triple) (t : ℕ) → IsDouble p m t → GoesAsPawn p m → StepsTwice p m
stepped_twice p m t d r =
    elim (pawn_way p m r) [
      | inl forward ↦ absurd (not_two (rank_distance m.from m.to) (forward_is_one p.turn m.from m.to forward) d.ranks)
      | inr w ↦ w
    ]

-- the squares of a double step, one rank after the other
record IsColumn (c : Colour) (s t u : ℕ) : Type 0 where
  on_rank : rank_of u ≡ target_rank (other c)
  back : ahead (other c) u ≡ s
  forth : ahead c u ≡ t
  off_to : u ≢ t
  apart : s ≢ t

-- the three squares of a double step
column : (c : Colour) (s t u : ℕ) → rank_of s ≡ pawn_rank c → t ≡ ahead c (ahead c s) → u ≡ ahead c s → IsColumn c s t u
column White s t u h e f = record {
  on_rank = omega arith;
  back = omega arith;
  forth = omega arith;
  off_to = λ g. omega arith;
  apart = λ g. omega arith;
}
column Black s t u h e f = record {
  on_rank = omega arith;
  back = omega arith;
  forth = omega arith;
  off_to = λ g. omega arith;
  apart = λ g. omega arith;
}

-- a square that was empty and is not the goal stays empty
stays_empty : (p : Parts) (m : Triple) (u : ℕ) → goes_to_own p m ≡ false → u ≢ m.to → piece_on p u ≡ None
    → cell_after p m u ≡ None
stays_empty p m u free off is =
    elim (moved_cases p m u free) [ inl w ↦ absurd (off w.square) | inr (inl w) ↦ w.holds | inr (inr w) ↦ w.holds ∙ is ]

-- the square that the piece leaves is empty
pub from_empty : (p : Parts) (m : Triple) → goes_to_own p m ≡ false → m.from ≢ m.to → cell_after p m m.from ≡ None
from_empty p m free apart =
    elim (moved_cases p m m.from free) [
      | inl w ↦ absurd (apart w.square)
      | inr (inl w) ↦ w.holds
      | inr (inr w) ↦ absurd (w.off_from refl)
    ]

-- short of its last rank a pawn stays a pawn
lands_as_pawn : (p : Parts) (m : Triple) → GoesAsPawn p m → goes_to_own p m ≡ false → rank_of m.to ≢ last_rank p.turn
    → cell_after p m m.to ≡ man p.turn Pawn
lands_as_pawn p m r free short =
    let none = r.promotion.others short in
    landing p m free ∙ rw none r.mover

-- a target is on the board
rank_in : (t : ℕ) (c : Colour) → rank_of t ≡ target_rank c → t < 64
rank_in t White h = omega arith
rank_in t Black h = omega arith

-- the conditions of the new target hold
pub target_kept : (p : Parts) (m : Triple) (t : ℕ) (cells : List Cell) → GoesAsPawn p m → goes_to_own p m ≡ false
    → IsDouble p m t
    → IsMove m → ((u : ℕ) → u < 64 → cell_at cells u ≡ cell_after p m u) → IsTarget cells (other p.turn) t
target_kept p m t cells r free d move same =
    let j = stepped_twice p m t d r in
    let col = column p.turn m.from m.to t j.first j.goal d.target in
    let t_in : t < 64 = rank_in t (other p.turn) col.on_rank in
    let middle : piece_on p t ≡ None = ap (λ (s : ℕ). piece_on p s) d.target ∙ j.passed in
    record {
      on_rank = col.on_rank;
      empty = same t t_in ∙ stays_empty p m t free col.off_to middle;
      behind = rw col.back (same m.from move.from ∙ from_empty p m free col.apart);
      pawn =
          let short = double_stops p.turn m.from m.to j.first j.goal in
          rw (other_other, col.forth) (same m.to move.to ∙ lands_as_pawn p m r free short);
    }
