-- What contracts see of a hall.
use Rattle.std.specs.Prelude.{ℕ, Bool, false, List, [], map, Option}
use Rattle.atomic_table.specs.Seated.{TableId}
use Rattle.c960_game.specs.GameRecord.{GameRecord}
use Rattle.c960_game.specs.Limits.{LimitNumbers}
use Rattle.relay_core.specs.State.{RelayRecord}
use Rattle.relay_hall.specs.declared.handed.Handed.{Handed}
use Rattle.relay_hall.specs.declared.holders.Holder.{Holder}
use Rattle.relay_hall.specs.declared.owner.Owner.{Owner}

-- a board: its table, its game, and who opened it
pub record HallBoard : Type 0 where
  pub table : TableId
  pub game : GameRecord
  pub owner : Owner

-- what connections' steps are about: the limits, and the boards under their names, in the order of opening
pub record FloorRecord : Type 0 where
  pub limits : LimitNumbers
  pub boards : List (List ℕ × HallBoard)

-- a hall: its boards; the keys that connections hold, or whose boards wait, which are read through presence_of alone; how long boards wait,
-- the time, both in milliseconds, and whether nobody can come back any more
pub record HallRecord : Type 0 where
  pub floor : FloorRecord
  pub keys : List Holder
  pub grace : ℕ
  pub time : ℕ
  pub shut : Bool

abbrev pub games_of : FloorRecord → List (List ℕ × GameRecord)
games_of f = map (λ e. (e.0, e.1.game)) f.boards

-- the boards as a relay without followers
abbrev pub plain_of : FloorRecord → RelayRecord
plain_of f = record { limits = f.limits; boards = games_of f; followers = [] }

abbrev pub nobody_yet : LimitNumbers → ℕ → HallRecord
nobody_yet limits grace = record { floor = record { limits = limits; boards = [] }; keys = []; grace = grace; time = 0; shut = false }

-- the boards while a text is answered: whose text it is, and what was handed out last and not taken yet
pub record FloorState : Type 0 where
  pub floor : FloorRecord
  pub speaker : Owner
  pub handed : Option Handed
