-- What a relay holds between two steps: what its contracts see, and each follower's queue. Whatever keeps boards and followers, in maps
-- or on live boards, holds one of these, and the laws of the steps (`proofs/lemmas/`) speak of it.
pub mod Followers
pub mod Order
pub mod Room
pub mod Stands
use Rattle.std.specs.Prelude.{ℕ, List, Option, map}
use Rattle.c960_board.specs.Moves.{Triple}
use Rattle.c960_game.specs.Limits.{LimitNumbers}
use Rattle.c960_game.specs.GameRecord.{GameRecord}
use Rattle.relay_core.specs.State.{FollowerRecord, RelayRecord}

-- a follower, the moves that wait for it in the order in which they will be taken, and how many may wait
pub record HeldFollower : Type 0 where
  pub board : List ℕ
  pub joined : ℕ
  pub taken : ℕ
  pub cut : Option ℕ
  pub queue : List Triple
  pub capacity : ℕ

pub record Held : Type 0 where
  pub limits : LimitNumbers
  pub boards : List (List ℕ × GameRecord)
  pub followers : List (ℕ × HeldFollower)

-- ---- The same without the queues.

abbrev pub plain_follower : HeldFollower → FollowerRecord
plain_follower f = record { board = f.board; joined = f.joined; taken = f.taken; cut = f.cut }

abbrev pub plain : Held → RelayRecord
plain r = record { limits = r.limits; boards = r.boards; followers = map (λ e. (e.0, plain_follower e.1)) r.followers }

-- ---- What a step leaves.

-- the relay with these boards and followers
abbrev pub turned : Held → List (List ℕ × GameRecord) → List (ℕ × HeldFollower) → Held
turned r bs fs = record { limits = r.limits; boards = bs; followers = fs }
