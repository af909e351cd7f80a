-- When a relay stands at a history.
use Rattle.std.specs.Prelude.{◌≡◌, ℕ, nat_eq, List, length, map, option_map}
use Rattle.std.specs.Map.{lookup}
use Rattle.c960_game.specs.Limits.{LimitNumbers}
use Rattle.c960_game.specs.GameRecord.{GameRecord}
use Rattle.relay_core.specs.Following.{following, board_of, joined, taken, closing_of}
use Rattle.relay_core.specs.History.{History, opened, start_of, log, end_of}
use Rattle.relay_core.specs.Name.{same_name}
use Rattle.relay_core.specs.Replies.{LawfulHistory}
use Rattle.relay_core.specs.State.{FollowerRecord, RelayRecord}

-- the game of a board with this start
abbrev pub game_of : LimitNumbers → History → List ℕ → ℕ → GameRecord
game_of limits h board start =
    record { start = start; plies = limits.plies; log = log h board; outcome = end_of h start board }

-- a spectator that follows this board
abbrev pub follower_of : LimitNumbers → History → ℕ → List ℕ → FollowerRecord
follower_of limits h who board = record {
  board = board;
  joined = joined h who;
  taken = length (taken h who);
  cut = closing_of limits.capacity h who;
}

-- Each reply of the history is allowed by the history before it. The relay holds exactly the boards opened, each with its start, log
-- and end, and exactly the spectators that follow, each with its board, its joining place, what it took and its closing.
pub record Stands (limits : LimitNumbers) (r : RelayRecord) (h : History) : Type 0 where
  pub given : r.limits ≡ limits
  pub lawful : LawfulHistory limits h
  pub boards : (board : List ℕ)
      → lookup (same_name board) r.boards ≡ option_map (game_of limits h board) (start_of h board)
  pub followers : (who : ℕ) → lookup (nat_eq who) r.followers ≡ option_map (follower_of limits h who) (board_of h who)
  pub board_count : length r.boards ≡ length (opened h)
  pub followed : map (λ e. (e.0, e.1.board)) r.followers ≡ following h
