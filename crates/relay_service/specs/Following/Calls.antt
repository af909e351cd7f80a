-- What each call does to a connection that follows a board.
use Rattle.std.specs.Prelude.{◌≡◌, ◌⊎◌, ◌+◌, ℕ, nat_lt, ◌&&◌, not, Bool, cond, true, false, List, [], ◌∷◌, ◌++◌, length, take, drop, Option, None, Some}
use Rattle.relay_frames.specs.Breaches.{code_of}
use Rattle.relay_frames.specs.Events.{Told, fragment, text, binary, ping, pong, closed, broken}
use Rattle.relay_frames.specs.Reading.{fed, next_step}
use Rattle.relay_frames.specs.declared.output.TheConstants.{MOST_OUTPUT}
use Rattle.relay_service.specs.declared.following.stage.Stage.{Stage}
use Rattle.relay_service.specs.declared.following.stage.Stage.TheVariants.{Left}
use Rattle.relay_service.specs.Following.Pieces.{Piece, a_close, a_ping, a_pong, frames_in}
use Rattle.relay_service.specs.Following.Record.{ConnectionRecord, DeliveryRecord, follows}

-- ---- What is delivered.

-- one more piece is put behind what is due
abbrev pub puts : DeliveryRecord → Piece → DeliveryRecord
puts c p = record c { due = c.due ++ frames_in p; pieces = c.pieces ++ p ∷ [] }

-- it follows no more, and its slot is free
abbrev pub left : DeliveryRecord → Stage → DeliveryRecord
left c stage = record c { stage = stage }

-- a close with this code or none is put, and it follows no more
abbrev pub closes : DeliveryRecord → Option ℕ → DeliveryRecord
closes c number = left (puts c (a_close number)) Left

-- the first n of the bytes due were sent
abbrev pub wrote : DeliveryRecord → ℕ → DeliveryRecord
wrote c n = record c { sent = c.sent ++ take n c.due; due = drop n c.due }

-- ---- What its peer says.

-- so much is due that it is not heard
abbrev pub is_full : DeliveryRecord → Bool
is_full c = nat_lt MOST_OUTPUT (length c.due)

abbrev pub is_heard : DeliveryRecord → Bool
is_heard c = follows c.stage && not (is_full c)

-- bytes came; those of one that follows no more are dropped
abbrev pub after_feed : ConnectionRecord → List ℕ → ConnectionRecord
after_feed c bytes = record c { reading = cond (follows c.delivery.stage) (fed c.reading bytes) c.reading }

-- behind the next event
abbrev pub moved_on : ConnectionRecord → ConnectionRecord
moved_on c = record c { reading = (next_step c.reading).then }

abbrev pub delivers : ConnectionRecord → DeliveryRecord → ConnectionRecord
delivers c d = record c { delivery = d }

-- A message of this many bytes is not answered. With a head of 6 it counts among those; beyond 65,536 bytes of them it is closed with 1008.
abbrev pub passes_over : ConnectionRecord → ℕ → ConnectionRecord
passes_over c size =
    cond (nat_lt 65536 (c.unanswered + size + 6)) (delivers c (closes c.delivery (Some 1008)))
    (record c { unanswered = c.unanswered + size + 6 })

-- An event is answered: a ping by a pong with its bytes, a close by one with its code, a breach by a close with that of the breach (RFC
-- 6455, sections 5.5.1 to 5.5.3 and 7.1.7).
abbrev pub answered : Told → ConnectionRecord → ConnectionRecord
answered fragment c = c
answered (text bytes) c = passes_over c (length bytes)
answered (binary bytes) c = passes_over c (length bytes)
answered (ping bytes) c = delivers c (puts c.delivery (a_pong bytes))
answered (pong bytes) c = c
answered (closed number) c = delivers c (closes c.delivery number)
answered (broken breach) c = delivers c (closes c.delivery (Some (code_of breach)))

-- It is heard, and the next event is answered. Or nothing has changed, and it is not heard or there is no event.
abbrev pub Answers : Bool → ConnectionRecord → ConnectionRecord → Type 0
Answers true c d = (t : Told) × (is_heard c.delivery ≡ true) × ((next_step c.reading).told ≡ Some t) × (d ≡ answered t (moved_on c))
Answers false c d = (d ≡ c) × (is_heard c.delivery ≡ true → (next_step c.reading).told ≡ None)

-- There was no memory: nothing has changed; or it was heard, the next event is lost, nothing was put, and it follows no more.
abbrev pub Fails : ConnectionRecord → ConnectionRecord → Type 0
Fails c d =
    (d ≡ c)
    ⊎ ((t : Told) × (is_heard c.delivery ≡ true) × ((next_step c.reading).told ≡ Some t) × (d ≡ delivers (moved_on c) (left c.delivery Left)))

-- ---- What it is sent unasked. Nothing is done to one that follows no more.

abbrev pub if_follows : ConnectionRecord → DeliveryRecord → ConnectionRecord
if_follows c d = cond (follows c.delivery.stage) (delivers c d) c

abbrev pub pinged : ConnectionRecord → ConnectionRecord
pinged c = if_follows c (puts c.delivery a_ping)

abbrev pub closed_by : ConnectionRecord → ℕ → ConnectionRecord
closed_by c code = if_follows c (closes c.delivery (Some code))

abbrev pub gone : ConnectionRecord → ConnectionRecord
gone c = if_follows c (left c.delivery Left)
