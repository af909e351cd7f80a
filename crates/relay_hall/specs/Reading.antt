-- What is read of a board: exactly its game's; and where it is found.
use Rattle.std.specs.Prelude.{◌≡◌, ℕ, List, ◌++◌, ◌-◌, drop, length, slice_get, Option, Result, IfOk, OnOk, option_map}
use Rattle.std.specs.List.{position}
use Rattle.std.specs.Map.{keys_of}
use Rattle.c960_board.specs.Moves.{Triple}
use Rattle.c960_game.specs.declared.outcome.Outcome.{Outcome}
use Rattle.c960_game.specs.GameRecord.{GameRecord}
use Rattle.c960_game.specs.Positions.{last_position}
use Rattle.relay_core.specs.Name.{same_name}
use Rattle.relay_messages.specs.declared.board_summary.BoardSummary.{BoardSummary}
use Rattle.relay_hall.specs.declared.owner.Owner.{Owner}
use Rattle.relay_hall.specs.Record.{FloorRecord, HallBoard}

-- a board that is looked at: its name, its game, and who opened it
pub record ShownBoard : Type 0 where
  pub name : List ℕ
  pub game : GameRecord
  pub owner : Owner

-- the board of this index, in the order of opening
abbrev pub shown_at : FloorRecord → ℕ → Option ShownBoard
shown_at f at = option_map (λ (e : List ℕ × HallBoard). record { name = e.0; game = e.1.game; owner = e.1.owner }) (slice_get f.boards at)

-- the index of the board of this name, in the order of opening
abbrev pub place_of : FloorRecord → List ℕ → Option ℕ
place_of f name = position (same_name name) (keys_of f.boards)

-- the moves of a game from a place on come after those that were there, and its outcome is told
pub record MovesFrom {E : Type 0} (g : GameRecord) (from : ℕ) (before after : List Triple) (told : Result (Option Outcome) E) : Type 0 where
  pub moves : OnOk told (after ≡ before ++ drop from g.log)
  pub outcome : IfOk told (λ o. o ≡ g.outcome)

-- the last move of a log, if it has any
abbrev pub last_of : List Triple → Option Triple
last_of log = slice_get log (length log - 1)

-- the present state of a board
abbrev pub summary_of : ShownBoard → BoardSummary
summary_of b = record {
  board = b.name;
  start = b.game.start;
  position = last_position b.game.start b.game.log;
  last = last_of b.game.log;
  plies = length b.game.log;
  outcome = b.game.outcome;
}
