-- The rule of a live board's table, and what a step means to it.
use Rattle.std.specs.Prelude.{List, Some, None}
use Rattle.live_board.specs.SharedBoard.{SharedBoard}
use Rattle.live_board.specs.Events.{Event, Goes, Runs}
use Rattle.live_board.specs.declared.setup.BoardSetup.{BoardSetup}
use Rattle.live_board.specs.Shows.{Table, Shows}

-- the words and views show a shared board that events led to
pub record ShowsReached (z : BoardSetup) (s : Table) : Type 0 where
  pub events : List Event
  pub now : SharedBoard
  pub runs : Runs z.limits None events (Some now)
  pub shows : Shows z now s

-- The table showed the board a. The step was this event: it was allowed, and the table now shows its effect on a.
abbrev pub IsEvent : BoardSetup → SharedBoard → Event → Table → Type 0
IsEvent z a e after = (b : SharedBoard) × Goes z.limits a e b × Shows z b after

-- The step was none of the events: the table shows the same board.
abbrev pub IsSilent : BoardSetup → SharedBoard → Table → Type 0
IsSilent z a after = Shows z a after
