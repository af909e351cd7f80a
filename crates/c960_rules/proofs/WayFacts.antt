-- The ways of castling, square by square.
use Rattle.std.proofs.Common.{◌≡◌, ℕ, ◌+◌, ◌<◌, ◌≤◌, arith, true, not}
use Rattle.std.specs.Prelude.{nat_lt, min, max}
use Rattle.std.proofs.lemmas.Bool.{and_parts, not-true, ltb-false}
use Rattle.c960_board.specs.declared.parts.Parts.{Parts}
use Rattle.c960_board.specs.Moves.{Triple}
use Rattle.c960_rules.specs.Castles.{Castles, king_goal}
use Rattle.c960_rules.specs.Tests.Castles.{may_castle, is_vacant, is_safe}
use Rattle.c960_rules.proofs.lemmas.MoveTests.{may_castle_tells, may_castle_from, vacant_tells, vacant_from, safe_tells, safe_from}

-- the squares below the king's way are safe
pub safe_below : (p : Parts) (m : Triple) (u g : ℕ) → g ≡ king_goal p.turn m → u < min m.from g → is_safe p m u ≡ true
safe_below p m u g e l =
    safe_from p m u (λ on attack.
    let goal : ℕ = king_goal p.turn m in
    let w = and_parts (not (nat_lt u (min m.from goal))) _ on in
    let low = ltb-false u (min m.from goal) (not-true (nat_lt u (min m.from goal)) w.0) in omega arith)

-- the squares above the king's way are safe
pub safe_above : (p : Parts) (m : Triple) (u g : ℕ) → g ≡ king_goal p.turn m → max m.from g + 1 ≤ u
    → is_safe p m u ≡ true
safe_above p m u g e l =
    safe_from p m u (λ on attack.
    let goal : ℕ = king_goal p.turn m in
    let w = and_parts (not (nat_lt u (min m.from goal))) (not (nat_lt (max m.from goal) u)) on in
    let high = ltb-false (max m.from goal) u (not-true (nat_lt (max m.from goal) u) w.1) in omega arith)

-- the three tests of castling, the ways square by square
pub record PassesCastling (p : Parts) (m : Triple) : Type 0 where
  pub may : may_castle p m ≡ true
  pub vacant : (u : ℕ) → u < 64 → is_vacant p m u ≡ true
  pub safe : (u : ℕ) → u < 64 → is_safe p m u ≡ true

-- castling, from its tests
pub castles_if : (p : Parts) (m : Triple) → may_castle p m ≡ true → ((u : ℕ) → u < 64 → is_vacant p m u ≡ true)
    → ((u : ℕ) → u < 64 → is_safe p m u ≡ true) → Castles p m
castles_if p m may vacant safe =
    let w = may_castle_tells p m may in
    record {
      king = w.king;
      rook = w.rook;
      right = w.right;
      no_promotion = w.no_promotion;
      vacant = λ u l. vacant_tells p m u (vacant u l);
      safe = λ u l. safe_tells p m u (safe u l);
    }

-- and to its tests
pub castles_only : (p : Parts) (m : Triple) → Castles p m → PassesCastling p m
castles_only p m w = record {
  may = may_castle_from p m (record {
    king = w.king;
    rook = w.rook;
    right = w.right;
    no_promotion = w.no_promotion;
  });
  vacant = λ u l. vacant_from p m u (w.vacant u l);
  safe = λ u l. safe_from p m u (w.safe u l);
}
