-- Whether there is a legal move, square by square.
use Rattle.std.proofs.Common.{◌≡◌, ℕ, ◌<◌, true, false, Option, Some, None, refl, inl, inr}
use Rattle.c960_board.specs.declared.piece.Kind.{Kind}
use Rattle.c960_board.specs.declared.piece.Kind.TheVariants.{Pawn, Knight, Bishop, Rook, Queen, King}
use Rattle.c960_board.specs.declared.parts.Parts.{Parts}
use Rattle.c960_board.specs.Moves.{Triple}
use Rattle.c960_rules.specs.Legal.{Legal}
use Rattle.c960_rules.specs.Inner.Listing.{promotes, triple, goes_to, HasMoveBetween, HasMoveFrom}
use Rattle.c960_rules.proofs.GoalFacts.{off_goals}
use Rattle.c960_rules.proofs.ListFacts.{none_or_some, plain_on_last, promoted_elsewhere}

-- if no promotion is legal and none may be left out, no move is
none_promoted : (p : Parts) (s t : ℕ) (k : Option Kind) → promotes p s t ≡ true
    → (Legal p (triple s t (Some Knight)) → ⊥) → (Legal p (triple s t (Some Bishop)) → ⊥)
    → (Legal p (triple s t (Some Rook)) → ⊥) → (Legal p (triple s t (Some Queen)) → ⊥) → Legal p (triple s t k) → ⊥
none_promoted p s t None h n b r q w = plain_on_last p s t h w.goes
none_promoted p s t (Some Knight) h n b r q w = n w
none_promoted p s t (Some Bishop) h n b r q w = b w
none_promoted p s t (Some Rook) h n b r q w = r w
none_promoted p s t (Some Queen) h n b r q w = q w
none_promoted p s t (Some Pawn) h n b r q w = let e = w.move.promotion in cc
none_promoted p s t (Some King) h n b r q w = let e = w.move.promotion in cc

-- said of all moves of the squares
pub between_promoted : (p : Parts) (s t : ℕ) → promotes p s t ≡ true
    → (Legal p (triple s t (Some Knight)) → ⊥) → (Legal p (triple s t (Some Bishop)) → ⊥)
    → (Legal p (triple s t (Some Rook)) → ⊥) → (Legal p (triple s t (Some Queen)) → ⊥) → HasMoveBetween p s t → ⊥
between_promoted p s t h n b r q w = none_promoted p s t w.promotion h n b r q w.legal

-- if no promotion may be named, the move names none
plain_only : (p : Parts) (s t : ℕ) (k : Option Kind) → promotes p s t ≡ false → Legal p (triple s t k)
    → Legal p (triple s t None)
plain_only p s t None h w = w
plain_only p s t (Some k) h w = absurd (promoted_elsewhere p s t k h w.goes)

-- said of all moves of the squares
pub between_plain : (p : Parts) (s t : ℕ) → promotes p s t ≡ false → HasMoveBetween p s t → Legal p (triple s t None)
between_plain p s t h w = plain_only p s t w.promotion h w.legal

-- if the piece does not go there, only castling is left
castled_only : (p : Parts) (s t : ℕ) (k : Option Kind) → goes_to p s t ≡ false → Legal p (triple s t k) → Legal p (triple s t None)
castled_only p s t None h w = w
castled_only p s t (Some j) h w = elim w.goes [
  | inl reached ↦ absurd (off_goals p s t (Some j) h reached)
  | inr castled ↦ absurd (none_or_some (Some j) castled.no_promotion refl)
]

-- said of all moves of the squares
pub between_castled : (p : Parts) (s t : ℕ) → goes_to p s t ≡ false → HasMoveBetween p s t → Legal p (triple s t None)
between_castled p s t h w = castled_only p s t w.promotion h w.legal

-- if no goal can be reached, there is no legal move from the square
pub no_move_from : (p : Parts) (s : ℕ) → ((t : ℕ) → t < 64 → HasMoveBetween p s t → ⊥) → HasMoveFrom p s → ⊥
no_move_from p s none w = none w.to w.on_board w.between

-- if no square has one, there is no legal move
pub no_move : (p : Parts) → ((s : ℕ) → s < 64 → HasMoveFrom p s → ⊥) → (m : Triple) × Legal p m → ⊥
no_move p none w =
    let m = w.0 in
    let between : HasMoveBetween p m.from m.to = record { promotion = m.promotion; legal = w.1 } in
    none m.from w.1.move.from (record { to = m.to; on_board = w.1.move.to; between = between })
