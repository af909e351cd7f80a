-- What contracts see of a game.
use Rattle.std.specs.Prelude.{ℕ, List, Option}
use Rattle.c960_board.specs.Moves.{Triple}
use Rattle.c960_game.specs.declared.outcome.Outcome.{Outcome}

-- the number of the start, how many moves the log may have, the moves made, and the outcome once the game is over
pub record GameRecord : Type 0 where
  pub start : ℕ
  pub plies : ℕ
  pub log : List Triple
  pub outcome : Option Outcome
