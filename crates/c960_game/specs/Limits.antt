-- The limits of a relay, and their ranges.
use Rattle.std.specs.Prelude.{ℕ, ◌≤◌}
use Rattle.c960_game.specs.declared.limits.TheConstants.{MOST_BOARDS, MOST_CAPACITY, MOST_FOLLOWERS, MOST_PLIES}

-- how many boards there may be, followers of a board, moves in a follower's queue, and plies in a game
pub record LimitNumbers : Type 0 where
  pub boards : ℕ
  pub followers : ℕ
  pub capacity : ℕ
  pub plies : ℕ

pub record AreLimits (l : LimitNumbers) : Type 0 where
  pub some_board : 1 ≤ l.boards
  pub most_boards : l.boards ≤ MOST_BOARDS
  pub some_follower : 1 ≤ l.followers
  pub most_followers : l.followers ≤ MOST_FOLLOWERS
  pub some_capacity : 1 ≤ l.capacity
  pub most_capacity : l.capacity ≤ MOST_CAPACITY
  pub some_ply : 1 ≤ l.plies
  pub most_plies : l.plies ≤ MOST_PLIES
