-- The events of a peer.
use Rattle.std.specs.Prelude.{ℕ, List, Bool, true, false, Option, None, Some, string_bytes}
use Rattle.relay_frames.specs.declared.breach.Breach.{Breach}
use Rattle.relay_frames.specs.declared.code.Code.{Code}
use Rattle.relay_frames.specs.declared.event.Event.{Event}
use Rattle.relay_frames.specs.declared.event.Event.TheVariants as events

-- an event, with the bytes that it contains
pub data Told : Type 0 where
  fragment : Told
  text : List ℕ → Told
  binary : List ℕ → Told
  ping : List ℕ → Told
  pong : List ℕ → Told
  closed : Option ℕ → Told
  broken : Breach → Told

abbrev pub number_of : Option Code → Option ℕ
number_of None = None
number_of (Some code) = Some code.number

abbrev pub told : Event → Told
told events.Fragment = fragment
told (events.Text s) = text (string_bytes s)
told (events.Binary bytes) = binary bytes.items
told (events.Ping bytes) = ping bytes.items
told (events.Pong bytes) = pong bytes.items
told (events.Closed code) = closed (number_of code)
told (events.Broken breach) = broken breach

-- no event follows it
abbrev pub is_last : Told → Bool
is_last (closed _) = true
is_last (broken _) = true
is_last fragment = false
is_last (text _) = false
is_last (binary _) = false
is_last (ping _) = false
is_last (pong _) = false
