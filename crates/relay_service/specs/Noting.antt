-- Which turn is noted.
use Rattle.relay_service.specs.Calling.Connections.{Turn, happens, passes}
use Rattle.relay_service.specs.Calling.Running.{Deed, Moment, came, failed, was_answered, was_pinged, was_sent_away, wrote}
use Rattle.relay_hall.specs.Runs as runs
use Rattle.relay_service.specs.declared.turn.NewTurn.{NewTurn}
use Rattle.relay_service.specs.declared.turn.NewTurn.TheVariants.{Happens, Comes, Goes, Time, Shuts, Ends}
use Rattle.relay_service.specs.declared.turn.Moments.{Moments}
use Rattle.relay_service.specs.declared.turn.NewDeed.{NewDeed}
use Rattle.relay_service.specs.declared.turn.NewDeed.TheVariants.{Came, Answered, Failed, Wrote, WasPinged, WasClosed}

abbrev pub moment_of : Moments → Moment
moment_of m = record { before = m.before.value; handed = m.handed.value; after = m.after.value }

abbrev pub deed_of : NewDeed → Deed
deed_of (Came bytes) = came bytes.items
deed_of (Answered some m) = was_answered some (moment_of m)
deed_of (Failed m) = failed (moment_of m)
deed_of (Wrote bytes) = wrote bytes.items
deed_of (WasPinged some) = was_pinged some
deed_of (WasClosed some code) = was_sent_away some code

abbrev pub turn_of : NewTurn → Turn
turn_of (Happens number deed) = happens number (deed_of deed)
turn_of (Comes key) = passes (runs.Comes key.value) runs.Silent
turn_of (Goes who) = passes (runs.Goes who.value) runs.Silent
turn_of (Time t) = passes (runs.Time t) runs.Silent
turn_of Shuts = passes runs.Shuts runs.Silent
turn_of Ends = passes runs.Ends runs.Silent
