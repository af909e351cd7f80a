-- All events of a peer, over any bytes in any pieces.
use Rattle.std.specs.Prelude.{◌≡◌, ℕ, zero, suc, ◌+◌, ◌≤◌, true, List, [], ◌∷◌, ◌++◌, length, fold, ⊤, Option, None, Some}
use Rattle.relay_frames.specs.declared.peer.TheConstants.{MOST_BYTES, MOST_FRAGMENTS}
use Rattle.relay_frames.specs.Events.{Told, is_last}
use Rattle.relay_frames.specs.Reading.{Message, Reading, opened, fed, next_step}

-- the events so far, in order, and what is known then
pub record Heard : Type 0 where
  pub told : List Told
  pub then : Reading

abbrev pub silence : Reading → Heard
silence r = record { told = []; then = r }

-- these events came before
abbrev pub behind : List Told → Heard → Heard
behind before h = record { told = before ++ h.told; then = h.then }

-- there is no event; or this one, and then those that come from there on
abbrev pub hear_step : (Reading → Heard) → Option Told → Reading → Heard
hear_step go_on None r = silence r
hear_step go_on (Some t) r = behind (t ∷ []) (go_on r)

-- `next` is called until it returns nothing, but n times at most
unfoldable pub hear_times : ℕ → Reading → Heard
hear_times zero r = silence r
hear_times (suc n) r = hear_step (hear_times n) (next_step r).told (next_step r).then

-- each frame has bytes, so this many times are enough
abbrev pub hear_all : Reading → Heard
hear_all r = hear_times (suc (length r.unread)) r

-- a piece comes, followed by the events that it causes
abbrev pub hear_piece : Heard → List ℕ → Heard
hear_piece h piece = behind h.told (hear_all (fed h.then piece))

abbrev pub hear_pieces : List (List ℕ) → Heard
hear_pieces pieces = fold hear_piece (silence opened) pieces

-- an event that is the last one is the last in the list
abbrev pub EndsWithTheLast : List Told → Type 0
EndsWithTheLast [] = ⊤
EndsWithTheLast (t ∷ ts) = (is_last t ≡ true → ts ≡ []) × EndsWithTheLast ts

-- how many bytes of a message, and how many of its fragments, have come
abbrev pub bytes_of : Option Message → ℕ
bytes_of None = 0
bytes_of (Some m) = length m.bytes

abbrev pub fragments_of : Option Message → ℕ
fragments_of None = 0
fragments_of (Some m) = m.fragments

-- of a message no more is kept than it may have, and besides that less than a frame: a head of 14 bytes, and 125 bytes if it is a control
-- frame, or otherwise what the message may still get
pub record IsSmall (r : Reading) : Type 0 where
  pub message : bytes_of r.begun ≤ MOST_BYTES
  pub fragments : fragments_of r.begun ≤ MOST_FRAGMENTS
  pub kept : length r.unread + bytes_of r.begun ≤ MOST_BYTES + 139
