-- What a connection shows of its fields, and what is kept true of it.
use Rattle.relay_service.specs.declared.following.connection.FollowerConnection.TheInside.{Inside}
use Rattle.relay_service.specs.Following.Record.{ConnectionRecord}
use Rattle.relay_service.specs.Following.Served.{IsServed}

abbrev pub connection_of : Inside → ConnectionRecord
connection_of a = record { delivery = a.delivery; reading = a.peer; unanswered = a.unanswered }

abbrev pub IsConnection : Inside → Type 0
IsConnection a = IsServed a.delivery
