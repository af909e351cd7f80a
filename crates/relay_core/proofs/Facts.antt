-- What holds for every lawful history, in the form in which it is preserved from step to step.
use Rattle.std.proofs.Common.{◌≡◌, ℕ, ◌+◌, ◌≤◌, nat_eq, length, List, [], Some, None}
use Rattle.std.specs.List.{IsDistinct}
use Rattle.std.specs.Map.{keys_of}
use Rattle.c960_game.specs.Limits.{LimitNumbers}
use Rattle.relay_core.specs.Following.{following, board_of, joined, taken, next, limit, stretch}
use Rattle.relay_core.specs.History.{History, start_of, log, named}
use Rattle.relay_core.specs.Stretch.{placed}

-- The next place lies within the stretch, the stretch within the log, and its end no further than a capacity ahead; what was
-- taken is the log from the joining place to the next place.
pub record IsWithin (capacity : ℕ) (h : History) (who : ℕ) (board : List ℕ) : Type 0 where
  pub reached : next h who ≤ limit capacity h who board
  pub ends : limit capacity h who board ≤ length (log h board)
  pub few : limit capacity h who board ≤ next h who + capacity
  pub had : taken h who ≡ placed (joined h who) (stretch (joined h who) (next h who) (log h board))

pub record Facts (limits : LimitNumbers) (h : History) : Type 0 where
  pub once : IsDistinct nat_eq (keys_of (following h))
  pub silent : (board : List ℕ) → start_of h board ≡ None → log h board ≡ []
  pub unnamed : (board : List ℕ) → start_of h board ≡ None → named h board ≡ None
  pub within : (who : ℕ) (board : List ℕ) → board_of h who ≡ Some board → IsWithin limits.capacity h who board
  pub short : (board : List ℕ) → length (log h board) ≤ limits.plies
