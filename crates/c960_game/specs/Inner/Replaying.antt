-- A position that has yet to be worked out: one before it, and the moves after that one.
use Rattle.std.specs.Prelude.{◌+◌, ◌≤◌, take}
use Rattle.c960_board.specs.declared.parts.Parts.{Parts}
use Rattle.c960_game.specs.declared.kept_positions.TheConstants.{MILE}
use Rattle.c960_game.specs.declared.replay.Replaying.TheInside.{Inside}
use Rattle.c960_game.specs.Positions.{position_after}
use Rattle.c960_game.specs.Inner.Replay.{AllLegal}

-- the position after the moves that are made
abbrev pub position_of : Inside → Parts
position_of a = position_after a.first (take a.made a.moves)

-- these moves can be made one after another, and the counters of the position have room for them
pub record IsReplaying (a : Inside) : Type 0 where
  pub made : a.made ≤ MILE
  pub legal : AllLegal a.first (take a.made a.moves)
  pub half_moves : a.first.half_moves + a.made ≤ 65535
  pub number : a.first.number + a.made ≤ 65535
