-- Castling leaves the board the weight that it had.
use Rattle.std.proofs.Common.{◌≢◌, ℕ, ◌+◌, ◌<◌, ◌≤◌, sym, ◌∙◌, ap, arith, inl, inr}
use Rattle.c960_board.specs.declared.piece.Kind.TheVariants.{Rook, King}
use Rattle.c960_board.specs.declared.parts.Parts.{Parts}
use Rattle.c960_board.specs.Pieces.{Cell}
use Rattle.c960_board.specs.Moves.{Triple, IsMove}
use Rattle.c960_rules.specs.Castles.{king_goal, rook_goal}
use Rattle.c960_rules.specs.After.{cell_after, after}
use Rattle.c960_rules.specs.Progress.{weight, progress}
use Rattle.c960_rules.proofs.lemmas.PieceFacts.{piece_on, one_kind}
use Rattle.c960_rules.proofs.CellFacts.{castled_cases}
use Rattle.c960_rules.proofs.CastlingFacts.{IsCastling, own_rook, king_goal_in, rook_goal_in}
use Rattle.c960_rules.proofs.SquareSums.{only_on, here_or_not, on_it, off_it, sum_on_two}
use Rattle.c960_rules.proofs.WeightFacts.{weight_bound, weight_of, weight_none}
use Rattle.c960_rules.proofs.Exchange.{weight_before, weight_then, progress_with}

-- the king and its rook are on different squares
castles_apart : (p : Parts) (m : Triple) → IsCastling p m → m.from ≢ m.to
castles_apart p m r e =
    let here = ap (λ (s : ℕ). piece_on p s) e in
    let kind = one_kind p.turn p.turn King Rook (sym r.castles.king ∙ here ∙ r.rook) in
    cc

-- king and rook weigh 7 each before the move, and any square at most 8
castled_before : (p : Parts) (m : Triple) (u : ℕ) → IsCastling p m → u < 64
    → weight_before p u + (only_on m.from 1 u + only_on m.to 1 u) ≤ 8
castled_before p m u r l =
    elim (here_or_not m.from 1 u) [
      | inl w ↦
          let king = weight_of (piece_on p u) p.turn King u (ap (λ (s : ℕ). piece_on p s) w.0 ∙ r.castles.king) in
          let on = w.1 in
          let off = off_it m.to 1 u (λ e. castles_apart p m r (sym w.0 ∙ e)) in
          omega arith
      | inr w ↦ elim (here_or_not m.to 1 u) [
        | inl v ↦
            let rook = weight_of (piece_on p u) p.turn Rook u (ap (λ (s : ℕ). piece_on p s) v.0 ∙ r.rook) in
            let off = w.1 in
            let on = v.1 in
            omega arith
        | inr v ↦
            let bound = weight_bound (piece_on p u) u l in
            let off = w.1 in
            let off_too = v.1 in
            omega arith
      ]
    ]

-- both weigh 7 on their goals, and a square that they leave and neither comes to is empty
castled_on : (p : Parts) (m : Triple) (u : ℕ) → IsCastling p m → u < 64
    → weight_before p u + (only_on m.from 1 u + only_on m.to 1 u)
    ≤ weight_then p m u + (only_on (king_goal p.turn m) 1 u + only_on (rook_goal p.turn m) 1 u)
castled_on p m u r l =
    elim (castled_cases p m u (own_rook p m r)) [
      | inl w ↦
          let before = castled_before p m u r l in
          let then = weight_of (cell_after p m u) p.turn King u (w.holds ∙ r.castles.king) in
          let on = on_it (king_goal p.turn m) 1 u w.square in
          omega arith
      | inr (inl w) ↦
          let before = castled_before p m u r l in
          let then = weight_of (cell_after p m u) p.turn Rook u (w.holds ∙ r.rook) in
          let on = on_it (rook_goal p.turn m) 1 u w.square in
          omega arith
      | inr (inr (inl w)) ↦
          let before = castled_before p m u r l in
          let then = weight_none (cell_after p m u) u w.holds in
          omega arith
      | inr (inr (inr w)) ↦
          let then = ap (λ (o : Cell). weight o u) w.holds in
          let from = off_it m.from 1 u w.off_from in
          let to = off_it m.to 1 u w.off_to in
          omega arith
    ]

-- castling exchanges weights
pub castling_keeps : (p : Parts) (m : Triple) → IsMove m → IsCastling p m → progress p ≤ progress (after p m)
castling_keeps p m move r =
    let king : ℕ = king_goal p.turn m in
    let rook : ℕ = rook_goal p.turn m in
    let all =
    progress_with p m (λ u. only_on m.from 1 u + only_on m.to 1 u) (λ u. only_on king 1 u + only_on rook 1 u)
    (λ u. castled_on p m u r) in
    let left = sum_on_two m.from m.to 1 1 move.from move.to in
    let right = sum_on_two king rook 1 1 (king_goal_in p.turn m) (rook_goal_in p.turn m) in
    omega arith
