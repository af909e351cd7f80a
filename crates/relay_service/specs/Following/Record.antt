-- What contracts see of a connection that follows a board.
use Rattle.std.specs.Prelude.{ℕ, Bool, true, false, List, []}
use Rattle.live_board.specs.Seats.{FollowerSeat}
use Rattle.relay_frames.specs.Reading.{Reading}
use Rattle.relay_hall.specs.declared.handed.Handed.{Handed}
use Rattle.relay_service.specs.declared.following.stage.Stage.{Stage}
use Rattle.relay_service.specs.declared.following.stage.Stage.TheVariants.{Follows, Over, Cut, Left, Failed}
use Rattle.relay_service.specs.Following.Pieces.{Piece}

-- The name of its board; its follower, or what that had when it left; how far it has come; what was still due when it began to follow;
-- the bytes that were sent, and those that are due; and the pieces that were put, the first one first.
pub record DeliveryRecord : Type 0 where
  pub board : List ℕ
  pub follower : FollowerSeat
  pub stage : Stage
  pub opening : List ℕ
  pub sent : List ℕ
  pub due : List ℕ
  pub pieces : List Piece

-- What is delivered to it; what was read of its peer; and how many bytes the messages have that it sent and nobody answers, each with a
-- head of 6.
pub record ConnectionRecord : Type 0 where
  pub delivery : DeliveryRecord
  pub reading : Reading
  pub unanswered : ℕ

abbrev pub follows : Stage → Bool
follows Follows = true
follows (Over outcome) = false
follows Cut = false
follows Left = false
follows Failed = false

-- how a follower relates to its board
pub record StandingRecord : Type 0 where
  pub follower : FollowerSeat
  pub stage : Stage

-- a connection to which this was handed out, of whose peer so much was read, and to which these bytes are due first
abbrev pub newcomer : Handed → Reading → List ℕ → ConnectionRecord
newcomer handed reading opening = record {
  delivery = record { board = handed.board; follower = handed.follower; stage = Follows; opening = opening; sent = []; due = opening; pieces = [] };
  reading = reading;
  unanswered = 0;
}
