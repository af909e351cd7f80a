-- What a loop shows of boards: a function of what it was told, in order.
use Rattle.std.specs.Prelude.{◌≡◌, ℕ, zero, suc, List, [], ◌∷◌, ◌++◌, length, Some, None, is_ok, if◌then◌else◌}
use Rattle.c960_board.specs.Moves.{Triple}
use Rattle.c960_game.specs.declared.outcome.Outcome.{Outcome}
use Rattle.c960_game.specs.Positions.{last_position}
use Rattle.c960_game.specs.Record.{opened, play_answer, with_move}
use Rattle.relay_hall.specs.Reading.{last_of}
use Rattle.relay_messages.specs.declared.board_summary.BoardSummary.{BoardSummary}
use Rattle.watch_port.specs.declared.board_table.BoardCopy.{BoardCopy}
use Rattle.watch_port.specs.declared.board_event.BoardEvent.{BoardEvent}
use Rattle.watch_port.specs.declared.board_event.BoardEvent.TheVariants.{Opened, Played, Ended}

-- a list in which the element of this index has changed, if there is one
abbrev pub changed_at : {X : Type 0} → (X → X) → ℕ → List X → List X
changed_at f at [] = []
changed_at f zero (x ∷ xs) = f x ∷ xs
changed_at f (suc at) (x ∷ xs) = x ∷ changed_at f at xs

-- ---- One board.

-- a board that was opened
abbrev pub copy_of : ℕ → List ℕ → ℕ → BoardCopy
copy_of plies name start = record { name = name; game = opened start plies; outcome = None }

-- a board on which a move was made, if it was legal
abbrev pub played_by : Triple → BoardCopy → BoardCopy
played_by m b = record b { game = if is_ok (play_answer b.game m) then with_move b.game m else b.game }

-- a board whose game has ended
abbrev pub ended_by : Outcome → BoardCopy → BoardCopy
ended_by outcome b = record b { outcome = Some outcome }

-- its present state
abbrev pub summary_of : BoardCopy → BoardSummary
summary_of b = record {
  board = b.name;
  start = b.game.start;
  position = last_position b.game.start b.game.log;
  last = last_of b.game.log;
  plies = length b.game.log;
  outcome = b.outcome;
}

-- ---- All boards of a loop, whose logs may have so many moves.

-- what one more event makes of them
abbrev pub copied_after : ℕ → List BoardCopy → BoardEvent → List BoardCopy
copied_after plies boards (Opened name start) = boards ++ copy_of plies name start ∷ []
copied_after plies boards (Played at m) = changed_at (played_by m) at boards
copied_after plies boards (Ended at outcome) = changed_at (ended_by outcome) at boards

-- what events make of them, in order
abbrev pub copied_from : ℕ → List BoardCopy → List BoardEvent → List BoardCopy
copied_from plies boards [] = boards
copied_from plies boards (x ∷ xs) = copied_from plies (copied_after plies boards x) xs

-- how many moves logs may have, and all that the loop was told
pub record TableRecord : Type 0 where
  pub plies : ℕ
  pub told : List BoardEvent

abbrev pub nothing_told : ℕ → TableRecord
nothing_told plies = record { plies = plies; told = [] }

-- the boards that a loop shows
abbrev pub shown_by : TableRecord → List BoardCopy
shown_by t = copied_from t.plies [] t.told

-- it was told more, perhaps
pub record HasTaken (before after : TableRecord) : Type 0 where
  pub plies : after.plies ≡ before.plies
  pub more : List BoardEvent
  pub told : after.told ≡ before.told ++ more
