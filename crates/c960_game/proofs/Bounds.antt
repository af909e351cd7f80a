-- The counters of a game grow by at most one a move.
use Rattle.std.proofs.Common.{◌≡◌, ℕ, ◌+◌, ◌≤◌, List, [], ◌∷◌, length, refl, arith}
use Rattle.c960_board.specs.declared.parts.Parts.{Parts}
use Rattle.c960_board.specs.Moves.{Triple}
use Rattle.c960_board.specs.Start.{start, start_of}
use Rattle.c960_rules.specs.After.{after}
use Rattle.c960_rules.proofs.lemmas.CounterSteps.{half_moves_step, number_step}
use Rattle.c960_game.specs.Positions.{position_after, last_position}

-- ---- Several moves.

pub half_moves_grow : (p : Parts) (l : List Triple) → (position_after p l).half_moves ≤ p.half_moves + length l
unfolding position_after
half_moves_grow p [] = omega arith
half_moves_grow p (m ∷ l) = omega (arith, half_moves_grow (after p m) l, half_moves_step p m)

pub number_grows : (p : Parts) (l : List Triple) → (position_after p l).number ≤ p.number + length l
unfolding position_after
number_grows p [] = omega arith
number_grows p (m ∷ l) = omega (arith, number_grows (after p m) l, number_step p m)

-- ---- A game.

pub start_half_moves : (n : ℕ) → (start n).half_moves ≡ 0
unfolding start start_of
start_half_moves n = refl

pub start_number : (n : ℕ) → (start n).number ≡ 1
unfolding start start_of
start_number n = refl

-- no more half-moves are counted than were made
pub half_moves_bound : (n : ℕ) (l : List Triple) → (last_position n l).half_moves ≤ length l
half_moves_bound n l = omega (arith, half_moves_grow (start n) l, start_half_moves n)

-- the move number is at most one above the moves made
pub number_bound : (n : ℕ) (l : List Triple) → (last_position n l).number ≤ length l + 1
number_bound n l = omega (arith, number_grows (start n) l, start_number n)
