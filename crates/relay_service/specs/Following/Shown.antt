-- The headline: what a connection has been sent and what is due to it, by the board of its name in the hall.
use Rattle.std.specs.Prelude.{◌≡◌, ◌≤◌, ◌+◌, ℕ, List, ◌++◌, length, take, Some}
use Rattle.std.specs.Map.{lookup}
use Rattle.relay_core.specs.Following.{stretch}
use Rattle.relay_core.specs.Name.{same_name}
use Rattle.relay_core.specs.Stretch.{placed}
use Rattle.live_board.specs.Views.{next_of}
use Rattle.relay_hall.specs.Record.{FloorRecord, HallBoard}
use Rattle.relay_service.specs.declared.following.stage.Stage.{Stage}
use Rattle.relay_service.specs.declared.following.stage.Stage.TheVariants.{Follows, Over, Cut, Left, Failed}
use Rattle.relay_service.specs.Following.Boards.{IsEndOf, end_of}
use Rattle.relay_service.specs.Following.Pieces.{AllGoOn, Piece, frames_of, moves_in}
use Rattle.relay_service.specs.Following.Record.{DeliveryRecord}
use Rattle.relay_service.specs.Following.Served.{EndsInJoining, IsLast}

-- as much was put as was taken, but for one move if there was no memory
abbrev pub IsPut : Stage → ℕ → ℕ → Type 0
IsPut Follows put taken = put ≡ taken
IsPut (Over outcome) put taken = put ≡ taken
IsPut Cut put taken = put ≡ taken
IsPut Left put taken = put ≡ taken
IsPut Failed put taken = taken ≤ put + 1

pub record IsShown (f : FloorRecord) (c : DeliveryRecord) : Type 0 where
  -- the board of its name in this hall
  pub board : HallBoard
  pub found : lookup (same_name c.board) f.boards ≡ Some board
  -- What was sent, and then what is due, are its opening and the frames of its pieces.
  pub bytes : c.sent ++ c.due ≡ c.opening ++ frames_of c.pieces
  -- The last of its opening tells where it joined: the place, and this board's position there.
  pub told : EndsInJoining c.opening c.follower.part.joined board.game.start (take c.follower.part.joined board.game.log)
  -- The moves among its pieces are those of this board's log from there to as far as it has come, each once, in order and with its place.
  pub place : ℕ
  pub reached : (c.follower.part.joined ≤ place) × (place ≤ length board.game.log)
  pub moves : moves_in c.pieces ≡ placed c.follower.part.joined (stretch c.follower.part.joined place board.game.log)
  -- Behind the end or a close there is nothing; pongs and pings stand where they were put.
  pub before : List Piece
  pub last : List Piece
  pub pieces : c.pieces ≡ before ++ last
  pub go_on : AllGoOn before
  pub ended_with : IsLast c.stage last
  -- An end that was told is the game's, behind its whole log; or it stands at its closing.
  pub ended : IsEndOf board c.follower.part c.stage
  -- What it took, and what is queued for it, are the stretch of that log from where it joined to its closing, or else to the present.
  pub queue : c.follower.part.taken ++ stretch (next_of c.follower.part) (end_of board c.follower.part) board.game.log ≡ stretch c.follower.part.joined (end_of board c.follower.part) board.game.log
  -- All that it took was put.
  pub all_put : IsPut c.stage place (next_of c.follower.part)
