-- What passes between the socket of a connection and the service.
use Rattle.std.specs.Prelude.{◌≡◌, ◌≤◌, ◌⊎◌, ℕ, Bool, false, true, List, length, take, Result, Ok, Err}
use Rattle.relay_durable.specs.Record.{DurableRecord, is_settled}
use Rattle.relay_service.specs.Calls.{Loses, ReceivesAt, SendsIn}
use Rattle.relay_service.specs.Record.{ServiceRecord, connection_at, due_at}
use Rattle.server_loop.specs.Socket.{IsLeft}
use Rattle.server_loop.specs.declared.socket.Delivery.{Delivery}
use Rattle.server_loop.specs.declared.socket.Delivery.TheVariants as deliveries
use Rattle.server_loop.specs.declared.socket.Intake.{Intake}
use Rattle.server_loop.specs.declared.socket.Intake.TheVariants.{Bytes, Nothing, End, Failed}

-- what came is the first part of this piece, and the service received just that, from this number; if nothing came, it received nothing
abbrev pub IsGiven : ServiceRecord → ℕ → List ℕ → Intake → ServiceRecord → Type 0
IsGiven s number piece (Bytes n) t = (n ≤ length piece) × ReceivesAt s number (take n piece) t
IsGiven s number piece Nothing t = t ≡ s
IsGiven s number piece End t = t ≡ s
IsGiven s number piece Failed t = t ≡ s

-- the service had no memory for what came: it has received nothing, or there is no connection of this number any more
abbrev pub IsLost : ServiceRecord → ℕ → List ℕ → ServiceRecord → Type 0
IsLost s number piece t = (t ≡ s) ⊎ ((n : ℕ) × Loses s number (take n piece) t)

-- the service received from a number what was read
abbrev pub IsRead : {E : Type 0} → ServiceRecord → ℕ → List ℕ → Result Intake E → ServiceRecord → Type 0
IsRead s number piece (Ok intake) t = IsGiven s number piece intake t
IsRead s number piece (Err e) t = IsLost s number piece t

-- some first part of what is due to a number was written to the socket of that number, and counted as sent to it, as much and no more
pub record IsSent (s : ServiceRecord) (number : ℕ) (delivery : Delivery) (t : ServiceRecord) : Type 0 where
  pub many : ℕ
  pub few : many ≤ length (due_at s number)
  pub left : IsLeft delivery many (length (due_at s number))
  pub sent : SendsIn (connection_at s number) s number many t

-- nothing was written, and nothing has changed
abbrev pub IsUnsent : {S : Type 0} → DurableRecord S → Delivery → DurableRecord S → Type 0
IsUnsent d delivery e = (delivery ≡ deliveries.Failed) × (e ≡ d)

-- it was sent, and nothing noted, if all that boards have is on the disk, and else nothing was written
abbrev pub IsSentIf : {S : Type 0} → Bool → DurableRecord S → ℕ → Delivery → DurableRecord S → Type 0
IsSentIf false d number delivery e = IsUnsent d delivery e
IsSentIf true d number delivery e = (e.scribe ≡ d.scribe) × IsSent d.service number delivery e.service

abbrev pub IsSentTo : {S : Type 0} → DurableRecord S → ℕ → Delivery → DurableRecord S → Type 0
IsSentTo d number delivery e = IsSentIf (is_settled d) d number delivery e
