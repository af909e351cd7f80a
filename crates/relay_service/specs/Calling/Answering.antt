-- What contracts see of a connection, how each of its events is answered by a hall, and what the connection then is.
use Rattle.std.specs.Prelude.{◌≡◌, ◌⊎◌, ℕ, ◌-◌, ◌==◌, List, [], ◌++◌, length, take, drop, cond, is_some, not, ◌||◌, Bool, true, false, Option, None, Some}
use Rattle.relay_core.specs.declared.reply.Reply.{Reply}
use Rattle.relay_frames.specs.Breaches.{code_of}
use Rattle.relay_frames.specs.declared.breach.Breach.{Breach}
use Rattle.relay_frames.specs.declared.breach.Breach.TheVariants.{NoHead, ReservedBit, Unmasked, ControlInFragments, LongControl, NothingToContinue, MessageWithinMessage, BadClose, NotUtf8, TooLong, TooManyFragments}
use Rattle.relay_frames.specs.Events.{Told, fragment, text, binary, ping, pong, closed, broken, is_last}
use Rattle.relay_frames.specs.Frames.{text_frame, ping_frame, pong_frame, close_frame}
use Rattle.relay_frames.specs.Reading.{Reading, fed, next_step, opened}
use Rattle.relay_messages.specs.Answers.{answer_text}
use Rattle.relay_messages.specs.declared.answer.Answer.TheVariants as answers
use Rattle.relay_messages.specs.declared.fault.MessageFault.{MessageFault}
use Rattle.relay_messages.specs.declared.fault.MessageFault.TheVariants as faults
use Rattle.relay_hall.specs.declared.handed.Handed.{Handed}
use Rattle.relay_hall.specs.declared.owner.Owner.{Owner}
use Rattle.relay_hall.specs.Record.{HallRecord}
use Rattle.relay_hall.specs.Talk.{IsAnsweredBy, IsUnansweredBy}
use Rattle.relay_hall.specs.Telling.{Tells}
use Rattle.relay_service.specs.declared.calling.operator_connection.TheConstants.{MOST_MESSAGES}
use Rattle.relay_service.specs.declared.calling.stage.Stage.{Stage}
use Rattle.relay_service.specs.declared.calling.stage.Stage.TheVariants.{Comes, Asks, HandsOver, Leaves}

-- what has come of a connection's request until that is answered, whether it may name a key, what has been read of the bytes behind it, the
-- boards that it opened, who it is, the bytes that have yet to be written to it, how many messages it may still send, and what it does
pub record OperatorRecord : Type 0 where
  pub head : List ℕ
  pub takes_keys : Bool
  pub reading : Reading
  pub boards : List (List ℕ)
  pub who : Owner
  pub due : List ℕ
  pub left : ℕ
  pub stage : Stage

-- who a connection with this number is before its request is read
abbrev pub nobody : ℕ → Owner
nobody opener = record { key = None; opener = opener }

-- nothing has come yet of a connection with this number
abbrev pub newcomer : ℕ → Bool → OperatorRecord
newcomer opener takes_keys = record {
  head = [];
  takes_keys = takes_keys;
  reading = opened;
  boards = [];
  who = nobody opener;
  due = [];
  left = MOST_MESSAGES;
  stage = Comes;
}

abbrev pub is_draining : Stage → Bool
is_draining Comes = false
is_draining Asks = false
is_draining HandsOver = false
is_draining Leaves = true

-- bytes came, behind the request; those of one that leaves are dropped
abbrev pub after_feed : OperatorRecord → List ℕ → OperatorRecord
after_feed c bytes = record c { reading = cond (is_draining c.stage) c.reading (fed c.reading bytes) }

-- the first n of the bytes due were written
abbrev pub after_write : OperatorRecord → ℕ → OperatorRecord
after_write c n = record c { due = drop n c.due }

-- more is due
abbrev pub with_due : OperatorRecord → List ℕ → OperatorRecord
with_due c frames = record c { due = c.due ++ frames }

-- ---- The answers that need no hall.

abbrev pub fault_frame : MessageFault → List ℕ
fault_frame fault = text_frame (answer_text (answers.Fault fault))

-- one whose message was too long first gets the answer to a text that is too long
abbrev pub apology : Breach → List ℕ
apology TooLong = fault_frame faults.BadField
apology NoHead = []
apology ReservedBit = []
apology Unmasked = []
apology ControlInFragments = []
apology LongControl = []
apology NothingToContinue = []
apology MessageWithinMessage = []
apology BadClose = []
apology NotUtf8 = []
apology TooManyFragments = []

-- a close with the code of the breach, RFC 6455 section 7.1.7
abbrev pub breach_frames : Breach → List ℕ
breach_frames breach = apology breach ++ close_frame (Some (code_of breach))

-- ---- The answer to an event.

-- nothing is handed out, and the hall and the boards that were opened are as they were
abbrev pub Stays : HallRecord → List (List ℕ) → Option Handed → HallRecord → List (List ℕ) → Type 0
Stays k boards handed l now = (handed ≡ None) × (l ≡ k) × (now ≡ boards)

-- a text is answered by the hall as it stands, for this speaker, and nothing but the hall's boards has changed
abbrev pub TextAnswered : HallRecord → Owner → List (List ℕ) → List ℕ → List ℕ → Option Handed → HallRecord → List (List ℕ) → Type 0
TextAnswered k who boards s frames handed l now =
    (bytes : List ℕ) × IsAnsweredBy k.floor who boards s bytes handed l.floor now × (l ≡ record k { floor = l.floor }) × (frames ≡ text_frame bytes)

-- These frames answer an event at the hall k, which l is then, and this is handed out: to a text the hall's answer; to a message that is no
-- text NotJson; to a ping a pong with its bytes; to a close one with its code, RFC 6455 sections 5.5.1 to 5.5.3.
abbrev pub EventAnswered : HallRecord → Owner → List (List ℕ) → Told → List ℕ → Option Handed → HallRecord → List (List ℕ) → Type 0
EventAnswered k who boards fragment frames handed l now = (frames ≡ []) × Stays k boards handed l now
EventAnswered k who boards (text s) frames handed l now = TextAnswered k who boards s frames handed l now
EventAnswered k who boards (binary bytes) frames handed l now = (frames ≡ fault_frame faults.NotJson) × Stays k boards handed l now
EventAnswered k who boards (ping bytes) frames handed l now = (frames ≡ pong_frame bytes) × Stays k boards handed l now
EventAnswered k who boards (pong bytes) frames handed l now = (frames ≡ []) × Stays k boards handed l now
EventAnswered k who boards (closed number) frames handed l now = (frames ≡ close_frame number) × Stays k boards handed l now
EventAnswered k who boards (broken breach) frames handed l now = (frames ≡ breach_frames breach) × Stays k boards handed l now

-- there was no memory for its frames, or none to answer
abbrev pub TextUnanswered : HallRecord → Owner → List (List ℕ) → List ℕ → Option Handed → HallRecord → List (List ℕ) → Type 0
TextUnanswered k who boards s handed l now =
    (IsUnansweredBy k.floor who boards s handed l.floor now ⊎ ((bytes : List ℕ) × IsAnsweredBy k.floor who boards s bytes handed l.floor now))
    × (l ≡ record k { floor = l.floor })

abbrev pub EventUnanswered : HallRecord → Owner → List (List ℕ) → Told → Option Handed → HallRecord → List (List ℕ) → Type 0
EventUnanswered k who boards (text s) handed l now = TextUnanswered k who boards s handed l now
EventUnanswered k who boards fragment handed l now = Stays k boards handed l now
EventUnanswered k who boards (binary bytes) handed l now = Stays k boards handed l now
EventUnanswered k who boards (ping bytes) handed l now = Stays k boards handed l now
EventUnanswered k who boards (pong bytes) handed l now = Stays k boards handed l now
EventUnanswered k who boards (closed number) handed l now = Stays k boards handed l now
EventUnanswered k who boards (broken breach) handed l now = Stays k boards handed l now

-- ---- The last message that a connection may send.

-- each message counts, and each ping and pong; the fragments of one message are not counted
abbrev pub left_after : ℕ → Told → ℕ
left_after left fragment = left
left_after left _ = left - 1

-- whether no message follows for which nothing was handed out: the event is the last of all, or of those that it may send
abbrev pub is_the_last : ℕ → Told → Bool
is_the_last left t = is_last t || (left == 0)

-- after the last one that it may send a close with 1000, unless it closes or follows anyway
abbrev pub farewell : ℕ → Told → Bool → List ℕ
farewell left t has_handed = cond (is_last t || has_handed || not (left == 0)) [] (close_frame (Some 1000))

-- an event is answered, with a farewell if this is due
abbrev pub EventMet : HallRecord → Owner → List (List ℕ) → ℕ → Told → List ℕ → Option Handed → HallRecord → List (List ℕ) → Type 0
EventMet k who boards left t frames handed l now =
    (answer : List ℕ) × EventAnswered k who boards t answer handed l now × (frames ≡ answer ++ farewell left t (is_some handed))

-- ---- What a connection is then.

-- the frames of the answer to an event are due behind all that was due
abbrev pub Answers : OperatorRecord → HallRecord → Told → Option Handed → HallRecord → OperatorRecord → Type 0
Answers c k t handed l d =
    (frames : List ℕ) × EventAnswered k c.who c.boards t frames handed l d.boards × (d ≡ record c { boards = d.boards; due = c.due ++ frames })

-- the same with a farewell
abbrev pub AnswersInFull : OperatorRecord → HallRecord → Told → Option Handed → HallRecord → OperatorRecord → Type 0
AnswersInFull c k t handed l d =
    (frames : List ℕ) × EventMet k c.who c.boards c.left t frames handed l d.boards × (d ≡ record c { boards = d.boards; due = c.due ++ frames })

-- there was no memory, and something of the answer may be due behind all that was due
abbrev pub AnswersNot : OperatorRecord → HallRecord → Told → Option Handed → HallRecord → OperatorRecord → Type 0
AnswersNot c k t handed l d =
    EventUnanswered k c.who c.boards t handed l d.boards × (d ≡ record c { boards = d.boards; due = d.due }) × (take (length c.due) d.due ≡ c.due)

-- what it does after an event: once something was handed out it asks no more, nor after the last message
abbrev pub stage_after : Bool → Bool → Stage
stage_after has_handed is_last = cond has_handed HandsOver (cond is_last Leaves Asks)

abbrev pub asks : Stage → Bool
asks Comes = false
asks Asks = true
asks HandsOver = false
asks Leaves = false

-- ---- What it is sent unasked. Nothing is done to one that asks no more, or not yet: a frame may only come behind the acceptance.

-- a ping is due behind all that was due
abbrev pub pinged : OperatorRecord → OperatorRecord
pinged c = cond (asks c.stage) (with_due c (ping_frame [])) c

-- a close with this code is due behind all that was due, and it leaves
abbrev pub sent_away : OperatorRecord → ℕ → OperatorRecord
sent_away c code = cond (asks c.stage) (record c { due = c.due ++ close_frame (Some code); stage = Leaves }) c

-- it follows or leaves, so that it neither asks nor is going to
abbrev pub is_through : Stage → Bool
is_through Comes = false
is_through Asks = false
is_through HandsOver = true
is_through Leaves = true

-- behind the next event
abbrev pub moved_on : OperatorRecord → OperatorRecord
moved_on c = record c { reading = (next_step c.reading).then }

abbrev pub counted : OperatorRecord → Told → OperatorRecord
counted c t = record c { left = left_after c.left t }

-- an event was answered
abbrev pub Meets : OperatorRecord → HallRecord → Told → Option Handed → HallRecord → OperatorRecord → Type 0
Meets c k t handed l d =
    (frames : List ℕ) × EventMet k c.who c.boards (left_after c.left t) t frames handed l d.boards
    × (d ≡ record c {
      boards = d.boards;
      due = c.due ++ frames;
      left = left_after c.left t;
      stage = stage_after (is_some handed) (is_the_last (left_after c.left t) t);
    })

-- there was no memory: it leaves, and nothing more is due
abbrev pub MeetsNot : OperatorRecord → HallRecord → Told → Option Handed → HallRecord → OperatorRecord → Type 0
MeetsNot c k t handed l d =
    EventUnanswered k c.who c.boards t handed l d.boards × (d ≡ record c { boards = d.boards; left = left_after c.left t; stage = Leaves })

-- It asks, and the next event was answered, and this was handed out. Or nothing has changed, and it asks no more or there is no event.
abbrev pub AnswersNext : Bool → OperatorRecord → HallRecord → Option Handed → HallRecord → OperatorRecord → Type 0
AnswersNext true c k handed l d = (t : Told) × (asks c.stage ≡ true) × ((next_step c.reading).told ≡ Some t) × Meets (moved_on c) k t handed l d
AnswersNext false c k handed l d = (handed ≡ None) × (l ≡ k) × (d ≡ c) × (asks c.stage ≡ true → (next_step c.reading).told ≡ None)

-- there was no memory: nothing has changed; or it asked, the next event is lost, and it leaves
abbrev pub Fails : OperatorRecord → HallRecord → Option Handed → HallRecord → OperatorRecord → Type 0
Fails c k handed l d =
    ((handed ≡ None) × (l ≡ k) × (d ≡ c))
    ⊎ ((t : Told) × (asks c.stage ≡ true) × ((next_step c.reading).told ≡ Some t) × MeetsNot (moved_on c) k t handed l d)

-- behind all that was due, the text that tells of what was handed out
abbrev pub IsTold : List ℕ → Handed → List ℕ → Type 0
IsTold due handed now = (reply : Reply) × Tells handed.follower reply × (now ≡ due ++ text_frame (answer_text (answers.Reply reply)))
