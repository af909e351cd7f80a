-- What the relay promises of every list of steps.
use Rattle.std.specs.Prelude.{◌≡◌, ℕ, List, ◌++◌, Some}
use Rattle.c960_game.specs.declared.outcome.Outcome.{Outcome}
use Rattle.c960_game.specs.Game960.{Game960}
use Rattle.c960_game.specs.Limits.{LimitNumbers}
use Rattle.relay_core.specs.Following.{board_of}
use Rattle.relay_core.specs.History.{History, start_of, log, end_of}
use Rattle.relay_core.specs.Stands.{Stands}
use Rattle.relay_core.specs.State.{RelayRecord}
use Rattle.relay_core.specs.Stretch.{IsStretch}

-- The relay stands at the history. There each board's log is a legal game from its numbered start. At each earlier history the
-- moves that a follower had taken, then those that it had queued, were the stretch of that log from its joining place to the
-- present or its closing. A game that had ended at an earlier history has the same start, log and outcome now.
pub record Headline (limits : LimitNumbers) (r : RelayRecord) (now : History) : Type 0 where
  pub stands : Stands limits r now
  pub games : (board : List ℕ) (n : ℕ) → start_of now board ≡ Some n → Game960 n (log now board)
  pub stretches : (since h : History) → now ≡ since ++ h → (who : ℕ) (board : List ℕ) → board_of h who ≡ Some board
      → IsStretch limits.capacity h who board
  pub ends : (since h : History) → now ≡ since ++ h → (board : List ℕ) (n : ℕ) (outcome : Outcome)
      → start_of h board ≡ Some n → end_of h n board ≡ Some outcome
      → (start_of now board ≡ Some n) × (log now board ≡ log h board) × (end_of now n board ≡ Some outcome)
