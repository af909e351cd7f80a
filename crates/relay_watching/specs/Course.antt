-- What a tape is told of a board.
use Rattle.std.specs.Prelude.{ℕ, ◌≡◌, ◌≤◌, List, [], ◌∷◌, ◌++◌, length, take, Option, Some, None}
use Rattle.c960_board.specs.Moves.{Triple}
use Rattle.c960_game.specs.declared.outcome.Outcome.{Outcome}

-- the moves of the log so far, and the outcome once the game is over
pub record Course : Type 0 where
  pub moves : List Triple
  pub outcome : Option Outcome

-- of a board on which no move has been made yet
abbrev pub opened : Course
opened = record { moves = []; outcome = None }

-- the log has another move
abbrev pub with_move : Course → Triple → Course
with_move c m = record c { moves = c.moves ++ m ∷ [] }

-- the log has these further moves, in order
abbrev pub with_moves : Course → List Triple → Course
with_moves c moves = record c { moves = c.moves ++ moves }

-- the game is over
abbrev pub with_outcome : Course → Outcome → Course
with_outcome c o = record c { outcome = Some o }

-- the log has some of these further moves, from the first on
abbrev pub HasSomeMore : Course → List Triple → Course → Type 0
HasSomeMore c moves d = (k : ℕ) × (k ≤ length moves) × (d ≡ with_moves c (take k moves))
