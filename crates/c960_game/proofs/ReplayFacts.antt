-- Replaying moves one by one.
use Rattle.std.proofs.Common.{◌≡◌, ℕ, zero, suc, ◌+◌, ◌<◌, ◌≤◌, List, [], ◌∷◌, length, take, get_or, arith}
use Rattle.std.proofs.lemmas.List.{take_more, length-take-le}
use Rattle.c960_board.specs.declared.parts.Parts.{Parts}
use Rattle.c960_board.specs.Moves.{Triple}
use Rattle.c960_rules.specs.After.{after}
use Rattle.c960_rules.specs.Legal.{Legal}
use Rattle.c960_game.specs.Positions.{position_after}
use Rattle.c960_game.specs.Inner.Replay.{AllLegal}
use Rattle.c960_game.proofs.lemmas.LogFacts.{position_after_more}
use Rattle.c960_game.proofs.Bounds.{half_moves_grow, number_grows}

-- the position after one move more
pub position_at_next : (p : Parts) (l : List Triple) (i : ℕ) (m : Triple) → i < length l
    → position_after p (take (i + 1) l) ≡ after (position_after p (take i l)) (get_or l i m)
position_at_next p l i m h = rw (take_more l i m h) (position_after_more p (take i l) (get_or l i m))

-- each move is legal in its position
pub legal_at : (p : Parts) (l : List Triple) (i : ℕ) (m : Triple) → AllLegal p l → i < length l
    → Legal (position_after p (take i l)) (get_or l i m)
unfolding AllLegal position_after
legal_at p [] i m h inside = absurd (omega arith)
legal_at p (x ∷ l) zero m h inside = h.0
legal_at p (x ∷ l) (suc i) m h inside = legal_at (after p x) l i m h.1 (omega arith)

-- the counters on the way
pub half_moves_at : (p : Parts) (l : List Triple) (i : ℕ) → i ≤ length l
    → (position_after p (take i l)).half_moves ≤ p.half_moves + i
half_moves_at p l i h = omega (arith, half_moves_grow p (take i l), length-take-le i l h)

pub number_at : (p : Parts) (l : List Triple) (i : ℕ) → i ≤ length l
    → (position_after p (take i l)).number ≤ p.number + i
number_at p l i h = omega (arith, number_grows p (take i l), length-take-le i l h)
