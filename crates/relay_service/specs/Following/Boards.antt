-- How a connection relates to the board of a hall that it follows.
use Rattle.std.specs.Prelude.{◌≡◌, ◌≤◌, ℕ, length, take, IfSome, None, Some, ⊤, unwrap_or}
use Rattle.std.specs.Map.{lookup}
use Rattle.relay_core.specs.Following.{stretch}
use Rattle.relay_core.specs.Name.{same_name}
use Rattle.live_board.specs.declared.view.Part.{Part}
use Rattle.live_board.specs.Seats.{FollowerSeat}
use Rattle.live_board.specs.Views.{next_of}
use Rattle.relay_hall.specs.declared.handed.Handed.{Handed}
use Rattle.relay_hall.specs.Record.{FloorRecord, HallBoard}
use Rattle.relay_hall.specs.Steps.{board_limits, newcomer_at}
use Rattle.relay_service.specs.declared.following.stage.Stage.{Stage}
use Rattle.relay_service.specs.declared.following.stage.Stage.TheVariants.{Follows, Over, Cut, Left, Failed}
use Rattle.relay_service.specs.Following.Record.{DeliveryRecord}

-- the length at which the follower was closed, or else the log's
abbrev pub end_of : HallBoard → Part → ℕ
end_of b p = unwrap_or p.closing (length b.game.log)

-- an end that was told is the game's, behind its whole log; or the follower stands at its closing
abbrev pub IsEndOf : HallBoard → Part → Stage → Type 0
IsEndOf b p Follows = ⊤
IsEndOf b p (Over outcome) = (b.game.outcome ≡ Some outcome) × (next_of p ≡ length b.game.log) × (p.closing ≡ None)
IsEndOf b p Cut = p.closing ≡ Some (next_of p)
IsEndOf b p Left = ⊤
IsEndOf b p Failed = ⊤

-- The follower sits, or sat, at the table of this very board. What it has taken is the stretch of this board's log from where it joined to
-- as far as it has come.
pub record IsOf (b : HallBoard) (f : FollowerSeat) (stage : Stage) : Type 0 where
  pub table : f.table ≡ b.table
  pub start : f.part.setup.start ≡ b.game.start
  pub before : f.part.before ≡ take f.part.joined b.game.log
  pub within : next_of f.part ≤ length b.game.log
  pub moves : f.part.taken ≡ stretch f.part.joined (next_of f.part) b.game.log
  pub closing : IfSome f.part.closing (λ closed. (next_of f.part ≤ closed) × (closed ≤ length b.game.log))
  pub ended : IsEndOf b f.part stage

-- it follows the board of its name, which is in this hall, or did until it left
pub record IsIn (f : FloorRecord) (c : DeliveryRecord) : Type 0 where
  pub board : HallBoard
  pub found : lookup (same_name c.board) f.boards ≡ Some board
  pub is_of : IsOf board c.follower c.stage

-- what was handed out is a follower of the board of that name, which joins at a place of its log with the moves before it
pub record IsHandedIn (f : FloorRecord) (h : Handed) : Type 0 where
  pub board : HallBoard
  pub found : lookup (same_name h.board) f.boards ≡ Some board
  pub table : h.follower.table ≡ board.table
  pub within : h.follower.part.joined ≤ length board.game.log
  pub part : h.follower.part ≡ newcomer_at (board_limits f.limits) board.game h.follower.part.slot h.follower.part.joined
