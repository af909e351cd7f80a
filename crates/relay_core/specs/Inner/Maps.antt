-- What the maps of a relay on one thread hold.
use Rattle.std.specs.Prelude.{ℕ, List}
use Rattle.c960_game.specs.GameRecord.{GameRecord}
use Rattle.relay_core.specs.Held.{HeldFollower}

-- the boards, and how many more fit without further memory
pub record HeldBoards : Type 0 where
  pub entries : List (List ℕ × GameRecord)
  pub room : ℕ

-- the spectators who follow, and how many more fit without further memory, their queues aside
pub record HeldFollowers : Type 0 where
  pub entries : List (ℕ × HeldFollower)
  pub room : ℕ
