-- The logs that are legal games of Chess960 (FIDE Laws, Articles 1, 3, 5.1.1, 5.2.1 and 9.6; Guidelines II).
use Rattle.std.specs.Prelude.{ℕ, ◌≡◌, ◌<◌, List, ◌∷◌, ◌++◌}
use Rattle.c960_board.specs.declared.numbering.TheConstants.{STARTS}
use Rattle.c960_board.specs.Moves.{Triple}
use Rattle.c960_rules.specs.Legal.{Legal, Mate, Stale}
use Rattle.c960_game.specs.Positions.{last_position}
use Rattle.c960_game.specs.Times.{times}

-- The game with these moves is not over by itself. Its present position is neither mate nor stalemate, it has appeared fewer than five
-- times, and fewer than seventy-five moves of each side were made since the last capture or pawn move.
pub record GoesOn (n : ℕ) (l : List Triple) : Type 0 where
  pub no_mate : Mate (last_position n l) → ⊥
  pub no_stalemate : Stale (last_position n l) → ⊥
  pub no_fivefold : times n l < 5
  pub no_seventy_five : (last_position n l).half_moves < 150

-- the game with these moves goes on, and the move is legal
pub record MayFollow (n : ℕ) (l : List Triple) (m : Triple) : Type 0 where
  pub going : GoesOn n l
  pub legal : Legal (last_position n l) m

-- The start has a number, each move is legal in its position, and no position before the last has ended the game.
pub record Game960 (n : ℕ) (l : List Triple) : Type 0 where
  pub numbered : n < STARTS
  pub moves : (before : List Triple) (m : Triple) (later : List Triple) → l ≡ before ++ m ∷ later → MayFollow n before m
