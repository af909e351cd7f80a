-- Which moves are legal does not depend on the counters.
use Rattle.std.proofs.Common.{ℕ, ◌⊎◌, inl, inr}
use Rattle.c960_board.specs.declared.parts.Parts.{Parts}
use Rattle.c960_board.specs.Moves.{Triple}
use Rattle.c960_rules.specs.Reaches.{GoesAsOfficer, Steps, StepsTwice, Takes, GoesAsPawn, Reaches}
use Rattle.c960_rules.specs.Castles.{Castles}
use Rattle.c960_rules.specs.After.{is_en_passant, cell_moved, cell_castled, cell_after, placement_after}
use Rattle.c960_rules.specs.Legal.{Legal}
use Rattle.c960_rules.specs.Effects.{with_counters}

-- an officer's move, with other counters
officer_same : (p : Parts) (m : Triple) (h n : ℕ) → GoesAsOfficer p m → GoesAsOfficer (with_counters p h n) m
officer_same p m h n w = record {
  kind = w.kind;
  officer = w.officer;
  mover = w.mover;
  attack = w.attack;
  no_promotion = w.no_promotion;
}

-- a pawn's way, with other counters
way_same : (p : Parts) (m : Triple) (h n : ℕ) → Steps p m ⊎ (StepsTwice p m ⊎ Takes p m)
    → Steps (with_counters p h n) m ⊎ (StepsTwice (with_counters p h n) m ⊎ Takes (with_counters p h n) m)
way_same p m h n (inl w) = inl (record { file = w.file; forward = w.forward; empty = w.empty })
way_same p m h n (inr (inl w)) =
    inr (inl (record { first = w.first; goal = w.goal; passed = w.passed; empty = w.empty }))
way_same p m h n (inr (inr w)) = inr (inr (record { attack = w.attack; prey = w.prey }))

-- a pawn's move, with other counters
pawn_same : (p : Parts) (m : Triple) (h n : ℕ) → GoesAsPawn p m → GoesAsPawn (with_counters p h n) m
pawn_same p m h n w = record {
  mover = w.mover;
  way = way_same p m h n w.way;
  promotion = record { last = w.promotion.last; others = w.promotion.others };
}

-- an ordinary move, with other counters
reaches_same : (p : Parts) (m : Triple) (h n : ℕ) → Reaches p m → Reaches (with_counters p h n) m
reaches_same p m h n w = record {
  goal = w.goal;
  goes = elim w.goes [ inl r ↦ inl (officer_same p m h n r) | inr r ↦ inr (pawn_same p m h n r) ];
}

-- castling, with other counters
castles_same : (p : Parts) (m : Triple) (h n : ℕ) → Castles p m → Castles (with_counters p h n) m
castles_same p m h n w = record {
  king = w.king;
  rook = w.rook;
  right = w.right;
  no_promotion = w.no_promotion;
  vacant = w.vacant;
  safe = w.safe;
}

-- a legal move, with other counters
pub legal_same : (p : Parts) (m : Triple) (h n : ℕ) → Legal p m → Legal (with_counters p h n) m
unfolding is_en_passant cell_moved cell_castled cell_after placement_after
legal_same p m h n w = record {
  move = w.move;
  goes = elim w.goes [ inl r ↦ inl (reaches_same p m h n r) | inr r ↦ inr (castles_same p m h n r) ];
  safe = w.safe;
}
