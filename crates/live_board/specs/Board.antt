-- What a board is, apart from its game.
use Rattle.std.specs.Prelude.{ℕ, ◌≡◌, ◌≤◌, ◌+◌, ◌<◌, Option, unwrap_or, length}
use Rattle.c960_game.specs.Limits.{LimitNumbers}
use Rattle.c960_game.specs.Record.{IsGame}
use Rattle.c960_game.specs.GameRecord.{GameRecord}
use Rattle.live_board.specs.declared.setup.BoardSetup.{BoardSetup}
use Rattle.live_board.specs.declared.view.View.{View}
use Rattle.live_board.specs.Sound.{IsSound}
use Rattle.live_board.specs.Seats.{BoardSeat}

abbrev pub setup_of : ℕ → LimitNumbers → BoardSetup
setup_of start limits = record {
  start = start;
  limits = record { followers = limits.followers; capacity = limits.capacity; plies = limits.plies };
}

-- the game that a board's view shows
abbrev pub game_of : View → GameRecord
game_of v = record { start = v.setup.start; plies = v.setup.limits.plies; log = v.log; outcome = v.outcome }

-- The game that a board's view shows is a legal game of Chess960 from its numbered start. Its outcome is the one that it has by itself, or
-- the one that an ending with its ground named. It is no longer than the ply limit.
abbrev pub IsLegalGame : View → Type 0
IsLegalGame v = IsGame (game_of v)

-- the game that runs is the one that the view shows
pub record IsBoard (writer : BoardSeat) (game : GameRecord) : Type 0 where
  pub game_is : game ≡ game_of writer.knows
  pub valid : IsGame game
  pub sound : IsSound writer.knows

-- ---- Following.

-- the place from which a follower takes: the log's length if it names none
abbrev pub from_place : View → Option ℕ → ℕ
from_place v from = unwrap_or from (length v.log)

-- the log has not reached the place
abbrev pub IsNotYet : View → ℕ → Type 0
IsNotYet v p = length v.log < p

-- the place lies more than a capacity behind
abbrev pub IsTooFarBack : View → ℕ → Type 0
IsTooFarBack v p = (p ≤ length v.log) × (p + v.setup.limits.capacity < length v.log)
