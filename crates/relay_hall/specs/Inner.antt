-- What a hall and its boards show of their fields, and what is kept true of a hall.
use Rattle.std.specs.Prelude.{◌≡◌, None}
use Rattle.relay_hall.specs.declared.floor.Floor.TheInside.{Inside as FloorInside}
use Rattle.relay_hall.specs.declared.hall.Hall.TheInside.{Inside as HallInside}
use Rattle.relay_hall.specs.Hosting.{rows}
use Rattle.relay_hall.specs.Record.{FloorState, HallRecord}
use Rattle.relay_hall.specs.Runs.{IsReached}

abbrev pub state_of : FloorInside → FloorState
state_of a = record { floor = record { limits = a.limits; boards = rows a.boards.entries }; speaker = a.speaker; handed = a.handed }

abbrev pub hall_of : HallInside → HallRecord
hall_of a = record { floor = a.floor.floor; keys = a.holders.rows.items; grace = a.grace; time = a.time; shut = a.is_shut }

-- nothing stays handed out between two calls, and some events lead to what the hall shows
pub record IsHall (a : HallInside) : Type 0 where
  pub empty : a.floor.handed ≡ None
  pub reached : IsReached (hall_of a)
