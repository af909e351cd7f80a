-- What happens in a hall, one event after another, and the history that this makes.
use Rattle.std.specs.Prelude.{◌≡◌, ◌⊎◌, ◌+◌, ◌-◌, ◌<◌, ℕ, Bool, true, false, cond, not, is_some, ◌&&◌, ◌||◌, List, [], ◌∷◌, ◌++◌, Option, None, Some}
use Rattle.c960_game.specs.declared.ending.Ending.TheVariants.{Abandoned}
use Rattle.c960_game.specs.declared.outcome.Outcome.TheVariants.{Abandoned as AbandonedOutcome}
use Rattle.relay_core.specs.declared.reply.Reply.{Reply}
use Rattle.relay_core.specs.declared.reply.Reply.TheVariants.{Ended}
use Rattle.relay_core.specs.declared.step.Step.{Step}
use Rattle.relay_core.specs.declared.step.Step.TheVariants.{Open, Submit, End, Follow, Take, Leave}
use Rattle.relay_core.specs.History.{History}
use Rattle.std.specs.Map.{lookup}
use Rattle.c960_board.specs.declared.parts.Parts.{Parts}
use Rattle.c960_game.specs.Positions.{position_at}
use Rattle.relay_core.specs.Name.{same_name}
use Rattle.live_board.specs.Seats.{FollowerSeat}
use Rattle.relay_hall.specs.declared.handed.Handed.{Handed}
use Rattle.relay_hall.specs.declared.holders.Holder.{Holder}
use Rattle.relay_hall.specs.declared.owner.Owner.{Owner}
use Rattle.relay_hall.specs.declared.presence.Presence.{Presence}
use Rattle.relay_hall.specs.declared.presence.Presence.TheVariants.{Here, Waits}
use Rattle.relay_hall.specs.Holders.{presence_of}
use Rattle.relay_hall.specs.Keys.{is_owner, same_key}
use Rattle.relay_hall.specs.Owning.{is_left_by}
use Rattle.relay_hall.specs.Record.{FloorRecord, HallBoard, HallRecord, nobody_yet}
use Rattle.relay_hall.specs.Steps.{Makes, board_limits, newcomer_at}
use Rattle.relay_hall.specs.Times.{Came, Shut, Timed, WentBy, has_waited, is_left_all, swept}

-- A connection with a key comes (one without a key is in no record), makes a step, or goes; the time comes; nobody can come back any more;
-- all games are ended. A message that makes no step is no event: nothing changes.
pub data HallEvent : Type 0 where
  Comes : (key : List ℕ) → HallEvent
  Says : (speaker : Owner) (step : Step) → HallEvent
  Goes : (who : Owner) → HallEvent
  Time : (t : ℕ) → HallEvent
  Shuts : HallEvent
  Ends : HallEvent

-- a reply, and what was handed out with it; or nothing
pub data HallTold : Type 0 where
  Replied : (reply : Reply) (handed : Option Handed) → HallTold
  Silent : HallTold

-- the events that are told nothing
abbrev pub Passes : HallRecord → HallEvent → HallRecord → Type 0
Passes k (Comes key) l = Came k key l
Passes k (Says speaker step) l = ⊥
Passes k (Goes who) l = WentBy k who.opener who.key l
Passes k (Time t) l = Timed k t l
Passes k Shuts l = Shut k l
Passes k Ends l = l ≡ swept k (λ _. true)

-- and those that get a reply, which change nothing but boards
abbrev pub Gets : HallRecord → HallEvent → Reply → Option Handed → HallRecord → Type 0
Gets k (Says speaker step) reply handed l = Makes k.floor speaker step reply handed l.floor × (l ≡ record k { floor = l.floor })
Gets k _ reply handed l = ⊥

abbrev pub HallStep : HallRecord → HallEvent → HallTold → HallRecord → Type 0
HallStep k e (Replied reply handed) l = Gets k e reply handed l
HallStep k e Silent l = Passes k e l

-- a step of whoever speaks was made, with some reply and what was handed out; or nothing has changed
abbrev pub IsOneStep : HallRecord → Owner → Option Handed → HallRecord → Type 0
IsOneStep k speaker handed l =
    ((step : Step) × (reply : Reply) × HallStep k (Says speaker step) (Replied reply handed) l) ⊎ ((l ≡ k) × (handed ≡ None))

-- ---- The history.

-- a step of a connection; followers are in no history
abbrev pub said : Step → Reply → History → History
said (Open name start) reply h = (Open name start, reply) ∷ h
said (Submit name m) reply h = (Submit name m, reply) ∷ h
said (End name ending) reply h = (End name ending, reply) ∷ h
said (Follow who name from) reply h = h
said (Take who) reply h = h
said (Leave who) reply h = h

-- the end of a board that is left and whose game goes on
abbrev pub end_of_one : (Owner → Bool) → List ℕ × HallBoard → History
end_of_one gone e = cond (gone e.1.owner && not (is_some e.1.game.outcome)) ((End e.0 Abandoned, Ended AbandonedOutcome) ∷ []) []

-- those of all boards, the last first
abbrev pub ends_of : (Owner → Bool) → List (List ℕ × HallBoard) → History
ends_of gone [] = []
ends_of gone (e ∷ es) = ends_of gone es ++ end_of_one gone e

-- whose boards are left when a connection goes, given the keys afterwards
abbrev pub goes_left : HallRecord → ℕ → Option (List ℕ) → Owner → Bool
goes_left l who None o = is_left_by who o
goes_left l who (Some key) o = is_left_all l.keys key o

abbrev pub history_after : HallRecord → HallEvent → HallTold → HallRecord → History → History
history_after k (Comes key) told l h = h
history_after k (Says speaker step) (Replied reply handed) l h = said step reply h
history_after k (Says speaker step) Silent l h = h
history_after k (Goes who) told l h = ends_of (goes_left l who.opener who.key) k.floor.boards ++ h
history_after k (Time t) told l h = ends_of (λ o. has_waited (Some t) k.keys o.key) k.floor.boards ++ h
history_after k Shuts told l h = ends_of (λ o. has_waited None k.keys o.key) k.floor.boards ++ h
history_after k Ends told l h = ends_of (λ _. true) k.floor.boards ++ h

-- one event after another, from a hall and a history to a hall and a history
abbrev pub HallRuns : HallRecord → History → List HallEvent → List HallTold → History → HallRecord → Type 0
HallRuns k h [] [] g l = (g ≡ h) × (l ≡ k)
HallRuns k h [] (t ∷ ts) g l = ⊥
HallRuns k h (e ∷ es) [] g l = ⊥
HallRuns k h (e ∷ es) (t ∷ ts) g l = (mid : HallRecord) × HallStep k e t mid × HallRuns mid (history_after k e t mid h) es ts g l

-- some events lead to this hall, from one of its limits and grace where nobody is yet
pub record IsReached (k : HallRecord) : Type 0 where
  pub events : List HallEvent
  pub told : List HallTold
  pub history : History
  pub run : HallRuns (nobody_yet k.floor.limits k.grace) [] events told history k

-- ---- Who has gone, of those without a key.

abbrev pub goes_now : ℕ → HallEvent → Bool
goes_now who (Goes one) = is_left_by who one
goes_now who _ = false

abbrev pub says_now : ℕ → HallEvent → Bool
says_now who (Says speaker step) = is_left_by who speaker
says_now who _ = false

-- the connection of this number has gone
abbrev pub has_gone : ℕ → List HallEvent → Bool
has_gone who [] = false
has_gone who (e ∷ es) = goes_now who e || has_gone who es

abbrev pub SaysNoMore : ℕ → List HallEvent → Type 0
SaysNoMore who [] = Unit {0}
SaysNoMore who (e ∷ es) = (says_now who e ≡ false) × SaysNoMore who es

-- whoever has gone says nothing afterwards
abbrev pub IsOrderly : List HallEvent → Type 0
IsOrderly [] = Unit {0}
IsOrderly (e ∷ es) = ((who : ℕ) → goes_now who e ≡ true → SaysNoMore who es) × IsOrderly es

-- ---- Who is there, of those with a key.

-- how many connections with each key are there after an event: those that came and did not go
abbrev pub count_after : (List ℕ → ℕ) → HallEvent → List ℕ → ℕ
count_after count (Comes key) q = cond (same_key q key) (count q + 1) (count q)
count_after count (Goes who) q = cond (is_owner (Some q) who.key) (count q - 1) (count q)
count_after count _ q = count q

-- and after all of these
abbrev pub counts_after : (List ℕ → ℕ) → List HallEvent → List ℕ → ℕ
counts_after count [] = count
counts_after count (e ∷ es) = counts_after (count_after count e) es

-- how many connections a presence counts
abbrev pub present : Option Presence → ℕ
present None = 0
present (Some (Here n)) = n
present (Some (Waits until)) = 0

-- as many hold each key as are counted
abbrev pub AreCounted : (List ℕ → ℕ) → List Holder → Type 0
AreCounted count keys = (q : List ℕ) → present (presence_of q keys) ≡ count q

abbrev pub SaysWhileThere : (List ℕ → ℕ) → HallEvent → Type 0
SaysWhileThere count (Says speaker step) = (key : List ℕ) → speaker.key ≡ Some key → 0 < count key
SaysWhileThere count _ = Unit {0}

-- whoever says something with a key is there, if as many are there at first as are counted
abbrev pub AllSayWhileThere : (List ℕ → ℕ) → List HallEvent → Type 0
AllSayWhileThere count [] = Unit {0}
AllSayWhileThere count (e ∷ es) = SaysWhileThere count e × AllSayWhileThere (count_after count e) es

-- ---- Whose games an event may end, and whom a follower follows.

-- nobody has the board of this owner any more, or nobody can come back, or all games are ended
abbrev pub IsForsaken : HallRecord → HallEvent → HallRecord → Owner → Type 0
IsForsaken k (Goes who) l o = goes_left l who.opener who.key o ≡ true
IsForsaken k (Time t) l o = has_waited (Some t) k.keys o.key ≡ true
IsForsaken k Shuts l o = has_waited None k.keys o.key ≡ true
IsForsaken k Ends l o = Unit {0}
IsForsaken k _ l o = ⊥

-- What was handed out with this reply is a follower at the table of the board of that name, which has that board's moves up to the place
-- that the reply tells; and the reply tells that board's position there.
pub record IsHandedOf (f : FloorRecord) (name : List ℕ) (joined : ℕ) (position : Parts) (handed : Option Handed) : Type 0 where
  pub board : HallBoard
  pub found : lookup (same_name name) f.boards ≡ Some board
  pub follower : FollowerSeat
  pub given : handed ≡ Some (record { board = name; follower = follower })
  pub table : follower.table ≡ board.table
  pub part : follower.part ≡ newcomer_at (board_limits f.limits) board.game follower.part.slot joined
  pub reached : position_at board.game.start board.game.log joined ≡ Some position

-- ---- Who is in time.

-- a connection has the key, or its boards wait, until a time that has not come, and somebody can come back
abbrev pub IsInTime : ℕ → Bool → Option Presence → Type 0
IsInTime time shut None = ⊥
IsInTime time shut (Some (Here present)) = 0 < present
IsInTime time shut (Some (Waits until)) = (time < until) × (shut ≡ false)
