-- The ranges of a board's limits.
use Rattle.std.specs.Prelude.{◌≤◌}
use Rattle.live_board.specs.declared.limits.BoardLimits.{BoardLimits}
use Rattle.c960_game.specs.declared.limits.TheConstants.{MOST_CAPACITY, MOST_FOLLOWERS, MOST_PLIES}

pub record AreBoardLimits (limits : BoardLimits) : Type 0 where
  pub some_follower : 1 ≤ limits.followers
  pub most_followers : limits.followers ≤ MOST_FOLLOWERS
  pub some_capacity : 1 ≤ limits.capacity
  pub most_capacity : limits.capacity ≤ MOST_CAPACITY
  pub some_ply : 1 ≤ limits.plies
  pub most_plies : limits.plies ≤ MOST_PLIES
