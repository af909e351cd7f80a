-- What happens to a connection, call by call, and what it is sent.
use Rattle.std.specs.Prelude.{◌≡◌, ◌⊎◌, ◌≤◌, ℕ, ◌+◌, List, [], ◌∷◌, ◌++◌, take, drop, Bool, true, false, None, Some, Option}
use Rattle.std.specs.List.{concat}
use Rattle.relay_frames.specs.declared.head.HeadSoFar.{HeadSoFar}
use Rattle.relay_frames.specs.declared.head.HeadSoFar.TheVariants.{Part, Whole, Refused}
use Rattle.relay_frames.specs.declared.request_refusal.RequestRefusal.{RequestRefusal}
use Rattle.relay_frames.specs.Events.{Told, fragment}
use Rattle.relay_frames.specs.Frames.{close_frame, ping_frame}
use Rattle.relay_frames.specs.Heads.{head_so_far}
use Rattle.relay_frames.specs.Hearing.{Heard, behind, hear_all}
use Rattle.relay_frames.specs.Reading.{fed, next_step, opened}
use Rattle.relay_frames.specs.Requests.{Accepts, IsAnswered, acceptance_text, answer_text}
use Rattle.relay_hall.specs.declared.handed.Handed.{Handed}
use Rattle.relay_hall.specs.declared.owner.Owner.{Owner}
use Rattle.relay_hall.specs.Record.{HallRecord}
use Rattle.relay_service.specs.Calling.Answering.{AnswersNext, EventMet, Fails, OperatorRecord, after_write, asks, left_after, nobody, pinged, sent_away}
use Rattle.relay_service.specs.Calling.Coming.{Feeds, owner_by}
use Rattle.relay_service.specs.declared.calling.operator_connection.TheConstants.{MOST_MESSAGES}
use Rattle.relay_service.specs.declared.calling.stage.Stage.{Stage}
use Rattle.relay_service.specs.declared.calling.stage.Stage.TheVariants.{Comes, Leaves}

-- what was handed out by a hall at some moment, the hall as it stood, and as it stood then
pub record Moment : Type 0 where
  pub before : HallRecord
  pub handed : Option Handed
  pub after : HallRecord

pub data Deed : Type 0 where
  -- these bytes came
  came : List ℕ → Deed
  -- what they say next was answered, if they say anything
  was_answered : Bool → Moment → Deed
  -- there was no memory to answer it
  failed : Moment → Deed
  -- these bytes were written
  wrote : List ℕ → Deed
  -- a ping was put, if it asked
  was_pinged : Bool → Deed
  -- a close with this code was put and it left, if it asked
  was_sent_away : Bool → ℕ → Deed

-- each as the call says
abbrev pub IsDone : OperatorRecord → Deed → OperatorRecord → Type 0
IsDone c (came bytes) d = Feeds c bytes d
IsDone c (was_answered some m) d = AnswersNext some c m.before m.handed m.after d
IsDone c (failed m) d = Fails c m.before m.handed m.after d
IsDone c (wrote bytes) d = (n : ℕ) × (bytes ≡ take n c.due) × (d ≡ after_write c n)
IsDone c (was_pinged some) d = (asks c.stage ≡ some) × (d ≡ pinged c)
IsDone c (was_sent_away some code) d = (asks c.stage ≡ some) × (d ≡ sent_away c code)

-- one after another, in any order
abbrev pub Runs : OperatorRecord → List Deed → OperatorRecord → Type 0
Runs c [] d = d ≡ c
Runs c (x ∷ xs) d = (mid : OperatorRecord) × IsDone c x mid × Runs mid xs d

-- ---- What can be read off them.

abbrev pub pieces_of : List Deed → List (List ℕ)
pieces_of [] = []
pieces_of (came bytes ∷ xs) = bytes ∷ pieces_of xs
pieces_of (was_answered some m ∷ xs) = pieces_of xs
pieces_of (failed m ∷ xs) = pieces_of xs
pieces_of (wrote bytes ∷ xs) = pieces_of xs
pieces_of (was_pinged some ∷ xs) = pieces_of xs
pieces_of (was_sent_away some code ∷ xs) = pieces_of xs

-- all bytes that came
abbrev pub bytes_of : List Deed → List ℕ
bytes_of deeds = concat (pieces_of deeds)

abbrev pub written_of : List Deed → List ℕ
written_of [] = []
written_of (came bytes ∷ xs) = written_of xs
written_of (was_answered some m ∷ xs) = written_of xs
written_of (failed m ∷ xs) = written_of xs
written_of (wrote bytes ∷ xs) = bytes ++ written_of xs
written_of (was_pinged some ∷ xs) = written_of xs
written_of (was_sent_away some code ∷ xs) = written_of xs

-- for what more was due to it: an event that was answered at this moment, a ping that was put, or a close with this code
pub data Cause : Type 0 where
  an_event : Moment → Cause
  a_ping : Cause
  a_close : ℕ → Cause

abbrev pub causes_of : List Deed → List Cause
causes_of [] = []
causes_of (came bytes ∷ xs) = causes_of xs
causes_of (was_answered true m ∷ xs) = an_event m ∷ causes_of xs
causes_of (was_answered false m ∷ xs) = causes_of xs
causes_of (failed m ∷ xs) = causes_of xs
causes_of (wrote bytes ∷ xs) = causes_of xs
causes_of (was_pinged true ∷ xs) = a_ping ∷ causes_of xs
causes_of (was_pinged false ∷ xs) = causes_of xs
causes_of (was_sent_away true code ∷ xs) = a_close code ∷ causes_of xs
causes_of (was_sent_away false code ∷ xs) = causes_of xs

-- ---- What a connection is sent.

-- These bytes are, in the order of their causes, the frames of the answers to these events, each at the hall as it stood, for one that had
-- opened these boards and might send so many messages; each ping that was put; and a close that was put, behind which nothing is due.
abbrev pub AreSent : Owner → List (List ℕ) → ℕ → List Cause → List Told → List ℕ → Type 0
AreSent who boards left [] ts bytes = (ts ≡ []) × (bytes ≡ [])
AreSent who boards left (an_event m ∷ cs) [] bytes = ⊥
AreSent who boards left (an_event m ∷ cs) (t ∷ ts) bytes =
    (frames : List ℕ) × (rest : List ℕ) × (now : List (List ℕ)) × EventMet m.before who boards (left_after left t) t frames m.handed m.after now
    × AreSent who now (left_after left t) cs ts rest × (bytes ≡ frames ++ rest)
AreSent who boards left (a_ping ∷ cs) ts bytes = (rest : List ℕ) × AreSent who boards left cs ts rest × (bytes ≡ ping_frame [] ++ rest)
AreSent who boards left (a_close code ∷ cs) ts bytes = (cs ≡ []) × (ts ≡ []) × (bytes ≡ close_frame (Some code))

-- how many messages the events are, with pings and pongs
abbrev pub messages_in : List Told → ℕ
messages_in [] = 0
messages_in (fragment ∷ ts) = messages_in ts
messages_in (_ ∷ ts) = messages_in ts + 1

-- An owner's connection to which first this was due, and which asks with these bytes. Some events were answered, and these are the first of
-- those of the bytes, and no more than so many messages. What was written to it, and then what is due, are what was due first, and then the
-- frames of their answers, with what was put unasked between them where that was. If it still asks and nothing more can be answered, they
-- are all the events of the bytes.
pub record IsSent (who : Owner) (first : List ℕ) (bytes : List ℕ) (deeds : List Deed) (d : OperatorRecord) : Type 0 where
  pub events : List Told
  pub frames : List ℕ
  pub rest : Heard
  pub heard : behind events rest ≡ hear_all (fed opened bytes)
  pub few : messages_in events ≤ MOST_MESSAGES
  pub answered : AreSent who [] MOST_MESSAGES (causes_of deeds) events frames
  pub sent : written_of deeds ++ d.due ≡ first ++ frames
  pub all : asks d.stage ≡ true → (next_step d.reading).told ≡ None → events ≡ (hear_all (fed opened bytes)).told

-- this was written to a connection, and then is due, and nothing else; nothing was answered or put unasked, and it has come so far
pub record IsSentOnly (answer : List ℕ) (stage : Stage) (deeds : List Deed) (d : OperatorRecord) : Type 0 where
  pub none : causes_of deeds ≡ []
  pub sent : written_of deeds ++ d.due ≡ answer
  pub there : d.stage ≡ stage

-- ---- From the first byte on.

-- The request whose head ends behind so many of these bytes is accepted: then its acceptance comes first, and the bytes behind the head are
-- answered to the owner that it names. Or it is refused, and that is all.
abbrev pub IsServedBehind : ℕ → ℕ → Bool → List ℕ → List Deed → OperatorRecord → Type 0
IsServedBehind end opener takes_keys bytes deeds d =
    (IsAnswered (take end bytes) None
    × ((value : List ℕ) × Accepts (take end bytes) value
    × IsSent (owner_by takes_keys (take end bytes) (nobody opener)) (acceptance_text value) (drop end bytes) deeds d))
    ⊎ ((refusal : RequestRefusal) × IsAnswered (take end bytes) (Some refusal) × IsSentOnly (answer_text refusal) Leaves deeds d)

-- Nothing is sent while more of the head has to come. If it is refused before its end, the answer to that is all.
abbrev pub IsServedAt : HeadSoFar → ℕ → Bool → List ℕ → List Deed → OperatorRecord → Type 0
IsServedAt Part opener takes_keys bytes deeds d = IsSentOnly [] Comes deeds d
IsServedAt (Whole end) opener takes_keys bytes deeds d = IsServedBehind end opener takes_keys bytes deeds d
IsServedAt (Refused refusal) opener takes_keys bytes deeds d = IsSentOnly (answer_text refusal) Leaves deeds d

-- what a connection with this number is sent, by all bytes that came from it, however they were cut
abbrev pub IsServed : ℕ → Bool → List Deed → OperatorRecord → Type 0
IsServed opener takes_keys deeds d = IsServedAt (head_so_far (bytes_of deeds)) opener takes_keys (bytes_of deeds) deeds d
