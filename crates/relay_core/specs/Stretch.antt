-- The stretch of a log that a follower takes.
use Rattle.std.specs.Prelude.{◌≡◌, ℕ, ◌+◌, ◌≤◌, List, [], ◌∷◌, ◌++◌, length}
use Rattle.c960_board.specs.Moves.{Triple}
use Rattle.relay_core.specs.Following.{joined, taken, next, limit, stretch, due}
use Rattle.relay_core.specs.History.{History, log}

-- the moves with their places, counted from the given one
abbrev pub placed : ℕ → List Triple → List (ℕ × Triple)
placed place [] = []
placed place (m ∷ ms) = (place, m) ∷ placed (place + 1) ms

-- The moves taken, then those due, are, each once and in order and with their places, the stretch of the log from the joining
-- place to the limit, which lies within the log; and no more are due than a queue holds.
pub record IsStretch (capacity : ℕ) (h : History) (who : ℕ) (board : List ℕ) : Type 0 where
  pub reached : next h who ≤ limit capacity h who board
  pub ends : limit capacity h who board ≤ length (log h board)
  pub whole : taken h who ++ placed (next h who) (due capacity h who board)
      ≡ placed (joined h who) (stretch (joined h who) (limit capacity h who board) (log h board))
  pub bounded : length (due capacity h who board) ≤ capacity
