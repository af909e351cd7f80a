-- What contracts see of a relay.
use Rattle.std.specs.Prelude.{ℕ, List, Option}
use Rattle.c960_game.specs.Limits.{LimitNumbers}
use Rattle.c960_game.specs.GameRecord.{GameRecord}

-- a follower: its board, the place of the log at which it joined, how many moves it has taken, and the length at which it was closed
pub record FollowerRecord : Type 0 where
  pub board : List ℕ
  pub joined : ℕ
  pub taken : ℕ
  pub cut : Option ℕ

-- the limits passed in, the boards by their names, and the spectators that follow, in the order of joining
pub record RelayRecord : Type 0 where
  pub limits : LimitNumbers
  pub boards : List (List ℕ × GameRecord)
  pub followers : List (ℕ × FollowerRecord)
