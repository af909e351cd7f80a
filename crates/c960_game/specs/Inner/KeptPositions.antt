-- What a game keeps in memory besides its start, its ply limit and its outcome: its moves, the present position, the positions
-- since the half-move counter began to count, and every thirty-second position. Each vector was reserved at the opening, and none
-- has grown since.
use Rattle.std.specs.Prelude.{ℕ, ◌≡◌, ◌+◌, ◌*◌, ◌/◌, ◌<◌, List, length, take, slice_get, Some}
use Rattle.std.specs.Vec.{vec_capacity}
use Rattle.c960_board.specs.declared.parts.Parts.{Parts}
use Rattle.c960_board.specs.Moves.{Triple}
use Rattle.c960_game.specs.declared.kept_positions.TheConstants.{MILE, RECENT}
use Rattle.c960_game.specs.declared.game.Game.TheInside.{Inside}
use Rattle.c960_game.specs.Positions.{last_position}
use Rattle.c960_game.specs.Times.{recent_positions}
use Rattle.c960_game.specs.Record.{IsGame}
use Rattle.c960_game.specs.GameRecord.{GameRecord}

abbrev pub record_of : Inside → GameRecord
record_of a = record { start = a.start; plies = a.plies; log = a.moves.items; outcome = a.outcome }

-- the start and the positions after 32 moves, 64 moves and so on
pub record AreMilestones (n : ℕ) (l : List Triple) (milestones : List Parts) : Type 0 where
  pub count : length milestones ≡ length l / MILE + 1
  pub each : (k : ℕ) → k < length milestones → slice_get milestones k ≡ Some (last_position n (take (k * MILE) l))

pub record IsKept (a : Inside) : Type 0 where
  pub game : IsGame (record_of a)
  pub position : a.position ≡ last_position a.start a.moves.items
  pub recent : a.recent.items ≡ recent_positions a.start a.moves.items
  pub milestones : AreMilestones a.start a.moves.items a.milestones.items
  pub moves_room : vec_capacity a.moves ≡ a.plies
  pub recent_room : vec_capacity a.recent ≡ RECENT
  pub milestones_room : vec_capacity a.milestones ≡ a.plies / MILE + 1
