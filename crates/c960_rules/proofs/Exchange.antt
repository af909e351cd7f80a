-- An ordinary move exchanges what its two squares weigh, and a capture or a pawn's move adds to the whole.
use Rattle.std.proofs.Common.{◌≡◌, ℕ, ◌+◌, ◌-◌, ◌<◌, ◌≤◌, true, sym, ◌∙◌, ap, arith, sum_by, inl, inr}
use Rattle.c960_board.specs.declared.piece.Kind.TheVariants.{Pawn}
use Rattle.c960_board.specs.declared.parts.Parts.{Parts}
use Rattle.c960_board.specs.Pieces.{Cell, other, is_of}
use Rattle.c960_board.specs.Position.{IsPosition}
use Rattle.c960_board.specs.Cells.{cell_at}
use Rattle.c960_board.specs.Moves.{Triple, IsMove}
use Rattle.c960_rules.specs.Lines.{squares}
use Rattle.c960_rules.specs.Reaches.{GoesAsOfficer, GoesAsPawn}
use Rattle.c960_rules.specs.After.{landed, cell_after, after}
use Rattle.c960_rules.specs.Progress.{weight, progress}
use Rattle.c960_rules.proofs.lemmas.PieceFacts.{piece_on, own_is}
use Rattle.c960_rules.proofs.CellFacts.{moved_cases}
use Rattle.c960_rules.proofs.Ordinary.{IsOrdinary, landed_plain}
use Rattle.c960_rules.proofs.CarryLaws.{goal_free}
use Rattle.c960_rules.proofs.MoveLaws.{stands_after}
use Rattle.c960_rules.proofs.SquareSums.{only_on, here_or_not, on_it, off_it, sum_on, sums_with}
use Rattle.c960_rules.proofs.WeightFacts.{piece_bound, weight_bound, officer_weight, weight_of, weight_none, pawn_lands_more}

-- what a square weighs before the move
abbrev pub weight_before : Parts → ℕ → ℕ
weight_before p u = weight (piece_on p u) u

-- and after it
abbrev pub weight_then : Parts → Triple → ℕ → ℕ
weight_then p m u = weight (cell_after p m u) u

-- sums compared square by square are sums of the two positions
pub progress_with : (p : Parts) (m : Triple) (a b : ℕ → ℕ)
    → ((u : ℕ) → u < 64 → weight_before p u + a u ≤ weight_then p m u + b u)
    → progress p + sum_by a squares ≤ progress (after p m) + sum_by b squares
unfolding progress
progress_with p m a b h =
    sums_with (weight_before p) a (λ u. weight (cell_at (after p m).placement u) u) b
    (λ u l. let same = ap (λ (o : Cell). weight o u) (stands_after p m u l) in let here = h u l in omega arith)

-- what the square that is left gains, and the most that the goal loses
record Exchanges (p : Parts) (m : Triple) (gain loss : ℕ) : Type 0 where
  pub leaves : weight_before p m.from + gain ≤ 8
  pub lands : weight_before p m.to ≤ weight (landed (piece_on p m.from) m.promotion) m.to + loss

-- no square weighs more than 8, the one that is left with what it gains neither
emptied_on : (p : Parts) (m : Triple) (gain loss u : ℕ) → Exchanges p m gain loss → u < 64
    → weight_before p u + only_on m.from gain u ≤ 8
emptied_on p m gain loss u x l =
    elim (here_or_not m.from gain u) [
      | inl w ↦
          let same = ap (λ (s : ℕ). weight_before p s) w.0 in
          let here = w.1 in
          let leaves = x.leaves in
          omega arith
      | inr w ↦
          let bound = weight_bound (piece_on p u) u l in
          let off = w.1 in
          omega arith
    ]

-- the exchange, on one square
exchanged_on : (p : Parts) (m : Triple) (gain loss u : ℕ) → IsOrdinary p m → Exchanges p m gain loss → u < 64
    → weight_before p u + only_on m.from gain u ≤ weight_then p m u + only_on m.to loss u
exchanged_on p m gain loss u r x l =
    elim (moved_cases p m u r.free) [
      | inl w ↦
          let apart = goal_free p m m.from r.kind r r.mover in
          let off = off_it m.from gain u (λ e. apart (sym e ∙ w.square)) in
          let on = on_it m.to loss u w.square in
          let before = ap (λ (s : ℕ). weight_before p s) w.square in
          let then = ap (λ (o : Cell). weight o u) w.holds in
          let there = ap (λ (s : ℕ). weight (landed (piece_on p m.from) m.promotion) s) w.square in
          let lands = x.lands in
          omega arith
      | inr (inl w) ↦
          let before = emptied_on p m gain loss u x l in
          let then = weight_none (cell_after p m u) u w.holds in
          omega arith
      | inr (inr w) ↦
          let off = off_it m.from gain u w.off_from in
          let then = ap (λ (o : Cell). weight o u) w.holds in
          omega arith
    ]

-- the exchange, on the whole board
exchanged : (p : Parts) (m : Triple) (gain loss : ℕ) → IsMove m → IsOrdinary p m → Exchanges p m gain loss
    → progress p + gain ≤ progress (after p m) + loss
exchanged p m gain loss move r x =
    let all = progress_with p m (only_on m.from gain) (only_on m.to loss) (λ u. exchanged_on p m gain loss u r x) in
    let left = sum_on m.from gain move.from in
    let right = sum_on m.to loss move.to in
    omega arith

-- a pawn's move raises the progress, whatever it takes
pub pawn_rises : (p : Parts) (m : Triple) → IsPosition p → IsMove m → IsOrdinary p m → GoesAsPawn p m
    → progress p < progress (after p m)
pawn_rises p m valid move r w =
    let light : ℕ = weight_before p m.from in
    let here = weight_of (piece_on p m.from) p.turn Pawn m.from w.mover in
    let low = piece_bound Pawn p.turn m.from move.from in
    let there = weight_bound (piece_on p m.to) m.to move.to in
    let more = pawn_lands_more p m valid move w in
    let all = exchanged p m (8 - light) (7 - light) move r (record { leaves = omega arith; lands = omega arith }) in
    omega arith

-- the weight of another piece on the square where it goes
officer_lands : (p : Parts) (m : Triple) → GoesAsOfficer p m
    → weight (landed (piece_on p m.from) m.promotion) m.to ≡ 7
officer_lands p m w =
    let lands = landed_plain (piece_on p m.from) m.promotion w.no_promotion ∙ w.mover in
    weight_of (landed (piece_on p m.from) m.promotion) p.turn w.kind m.to lands
    ∙ officer_weight w.kind p.turn m.to w.officer

-- another piece's move exchanges its weight with that of an empty square, at worst
pub officer_keeps : (p : Parts) (m : Triple) → IsMove m → IsOrdinary p m → GoesAsOfficer p m
    → progress p ≤ progress (after p m)
officer_keeps p m move r w =
    let here = weight_of (piece_on p m.from) p.turn w.kind m.from w.mover in
    let heavy = officer_weight w.kind p.turn m.from w.officer in
    let lands = officer_lands p m w in
    let there = weight_bound (piece_on p m.to) m.to move.to in
    let all = exchanged p m 1 1 move r (record { leaves = omega arith; lands = omega arith }) in
    omega arith

-- and if it takes a piece it adds the difference
pub officer_takes : (p : Parts) (m : Triple) → IsMove m → IsOrdinary p m → GoesAsOfficer p m
    → is_of (other p.turn) (piece_on p m.to) ≡ true → progress p < progress (after p m)
officer_takes p m move r w prey =
    let here = weight_of (piece_on p m.from) p.turn w.kind m.from w.mover in
    let heavy = officer_weight w.kind p.turn m.from w.officer in
    let lands = officer_lands p m w in
    let taken = own_is (other p.turn) (piece_on p m.to) prey in
    let weighs = weight_of (piece_on p m.to) (other p.turn) taken.kind m.to taken.is in
    let there = piece_bound taken.kind (other p.turn) m.to move.to in
    let all = exchanged p m 1 0 move r (record { leaves = omega arith; lands = omega arith }) in
    omega arith
