-- What each call does to a service: its turns grow by what was done, and nothing else has changed.
use Rattle.std.specs.Prelude.{◌≡◌, ◌&&◌, ℕ, nat_eq, Bool, cond, is_some, true, false, List, [], ◌∷◌, ◌++◌, take, Option, None, Some, MatchOption}
use Rattle.relay_hall.specs.declared.handed.Handed.{Handed}
use Rattle.relay_hall.specs.declared.owner.Owner.{Owner}
use Rattle.relay_hall.specs.Record.{FloorRecord, HallRecord}
use Rattle.relay_hall.specs.Runs.{HallEvent, HallStep, Comes, Goes, Silent}
use Rattle.relay_service.specs.Calling.Answering.{AnswersNext, Fails, OperatorRecord, asks}
use Rattle.relay_service.specs.Calling.Coming.{Feeds, comes}
use Rattle.relay_service.specs.Calling.Connections.{LeadsHall, Turn, deeds_of, happens, passes}
use Rattle.relay_service.specs.declared.calling.stage.Stage.{Stage}
use Rattle.relay_service.specs.declared.calling.stage.Stage.TheVariants.{HandsOver}
use Rattle.relay_service.specs.Calling.Running.{Deed, IsDone, IsServed, Moment, came, failed, was_answered, was_pinged, was_sent_away, wrote}
use Rattle.relay_service.specs.Following.Calls as following
use Rattle.relay_service.specs.Following.Pushing.{PushFails, Pushes}
use Rattle.relay_service.specs.Following.Record.{ConnectionRecord, follows, newcomer}
use Rattle.relay_service.specs.Following.Shown.{IsShown}
use Rattle.relay_service.specs.declared.connection.Connection.{Connection}
use Rattle.relay_service.specs.declared.connection.Connection.TheVariants.{Operator, Follower}
use Rattle.relay_service.specs.Record.{ServiceRecord, connection_at, connection_in, follower_at, owner_at, present_in}

-- this is the connection of this number then, or none is, and all others are as before
abbrev pub Replaces : ℕ → Option Connection → List (ℕ × Connection) → List (ℕ × Connection) → Type 0
Replaces number c before after = (q : ℕ) → connection_in after q ≡ cond (nat_eq number q) c (connection_in before q)

-- an operator's connection that was heard: if something was handed out it follows from then on, and what is due then comes before all moves
abbrev pub heard_as : Option Handed → OperatorRecord → Bool → Connection
heard_as None d here = Operator d here
heard_as (Some handed) d here = Follower (newcomer handed d.reading d.due) d.who here

-- the same if it was told so
abbrev pub taken_up : Bool → Option Handed → OperatorRecord → Bool → Connection
taken_up told handed d here = cond told (heard_as handed d here) (Operator d here)

-- what it is once this was done to it
abbrev pub becomes : Deed → OperatorRecord → Bool → Connection
becomes (came bytes) d here = Operator d here
becomes (was_answered some m) d here = heard_as m.handed d here
becomes (failed m) d here = Operator d here
becomes (wrote bytes) d here = Operator d here
becomes (was_pinged some) d here = Operator d here
becomes (was_sent_away some code) d here = Operator d here

-- the connections of all other numbers are as before
abbrev pub OthersStay : ServiceRecord → ℕ → ServiceRecord → Type 0
OthersStay s number t = (q : ℕ) → nat_eq number q ≡ false → connection_at t q ≡ connection_at s q

-- This was done to a connection, which is an operator's.
pub record DoesTo (before : Connection) (x : Deed) (after : Connection) : Type 0 where
  pub connection : OperatorRecord
  pub then : OperatorRecord
  pub is_present : Bool
  pub was : before ≡ Operator connection is_present
  pub done : IsDone connection x then
  pub is : after ≡ becomes x then is_present

-- This was done to the connection of this number, and nothing else. It is the last of the turns.
pub record Does (s : ServiceRecord) (number : ℕ) (x : Deed) (t : ServiceRecord) : Type 0 where
  pub before : Connection
  pub after : Connection
  pub there : connection_at s number ≡ Some before
  pub does : DoesTo before x after
  pub hall : LeadsHall s.hall x t.hall
  pub connections : Replaces number (Some after) s.connections t.connections
  pub rest : t ≡ record s { hall = t.hall; connections = t.connections; turns = s.turns ++ happens number x ∷ [] }

-- This was done to the connection of this number, which follows, and nothing else.
pub record Serves (s : ServiceRecord) (number : ℕ) (P : ConnectionRecord → ConnectionRecord → Type 0) (t : ServiceRecord) : Type 0 where
  pub before : ConnectionRecord
  pub after : ConnectionRecord
  pub who : Owner
  pub is_present : Bool
  pub there : connection_at s number ≡ Some (Follower before who is_present)
  pub does : P before after
  pub connections : Replaces number (Some (Follower after who is_present)) s.connections t.connections
  pub rest : t ≡ record s { connections = t.connections }

-- the first of these if there is no connection or nothing is done to it, the second of an operator's that is present in the hall, the third
-- of one that follows
abbrev pub ForEach : Option Connection → Type 0 → (OperatorRecord → Type 0) → (ConnectionRecord → Type 0) → Type 0
ForEach None N O F = N
ForEach (Some (Operator c true)) N O F = O c
ForEach (Some (Operator c false)) N O F = N
ForEach (Some (Follower f who here)) N O F = F f

-- the same of one that follows, if it does
abbrev pub ServesAt : ServiceRecord → ℕ → (ConnectionRecord → ConnectionRecord → Type 0) → ServiceRecord → Type 0
ServesAt s number P t = MatchOption (follower_at s number) (t ≡ s) (λ f. Serves s number P t)

-- An event that no connection says passed in the hall, and nothing else. It is the last of the turns.
pub record Passes (s : ServiceRecord) (e : HallEvent) (t : ServiceRecord) : Type 0 where
  pub step : HallStep s.hall e Silent t.hall
  pub rest : t ≡ record s { hall = t.hall; turns = s.turns ++ passes e Silent ∷ [] }

-- ---- What comes.

-- The key with which a connection comes to the hall that was at this stage before: the key that its request named, if that is accepted
-- now.
abbrev pub arrival_at : Stage → OperatorRecord → Option (List ℕ)
arrival_at was d = cond (comes was && asks d.stage) d.who.key None

abbrev pub arrival : OperatorRecord → OperatorRecord → Option (List ℕ)
arrival c d = arrival_at c.stage d

-- with a key it comes to the hall; without one nothing passes
abbrev pub Arrives : Option (List ℕ) → ServiceRecord → ServiceRecord → Type 0
Arrives None s t = t ≡ s
Arrives (Some key) s t = Passes s (Comes key) t

-- These bytes came from a connection, which comes to the hall if they are the end of its request.
pub record Receives (s : ServiceRecord) (number : ℕ) (bytes : List ℕ) (t : ServiceRecord) : Type 0 where
  pub mid : ServiceRecord
  pub fed : Does s number (came bytes) mid
  pub arrives : Arrives (arrival fed.does.connection fed.does.then) mid t

-- no connection has this number any more
abbrev pub Forgets : ServiceRecord → ℕ → ServiceRecord → Type 0
Forgets s number t = Replaces number None s.connections t.connections × (t ≡ record s { connections = t.connections })

-- These bytes came from a connection that was to come to the hall with a key, and is not there any more.
pub record Loses (s : ServiceRecord) (number : ℕ) (bytes : List ℕ) (t : ServiceRecord) : Type 0 where
  pub mid : ServiceRecord
  pub fed : Does s number (came bytes) mid
  pub keyed : is_some (arrival fed.does.connection fed.does.then) ≡ true
  pub gone : Forgets mid number t

-- these bytes came from the connection of this number; those of one that is not present in the hall any more are dropped
abbrev pub ReceivesAt : ServiceRecord → ℕ → List ℕ → ServiceRecord → Type 0
ReceivesAt s number bytes t =
    ForEach (connection_at s number) (t ≡ s) (λ c. Receives s number bytes t) (λ f. Serves s number (λ f g. g ≡ following.after_feed f bytes) t)

-- the same of the hall alone, and which turns that makes
abbrev pub Enters : HallRecord → Option (List ℕ) → HallRecord → Type 0
Enters k None l = l ≡ k
Enters k (Some key) l = HallStep k (Comes key) Silent l

abbrev pub arrivals : Option (List ℕ) → List Turn
arrivals None = []
arrivals (Some key) = passes (Comes key) Silent ∷ []

-- ---- What is answered.

-- the hall of this very service before and after, and what it handed out
abbrev pub moment : ServiceRecord → Option Handed → ServiceRecord → Moment
moment s handed t = record { before = s.hall; handed = handed; after = t.hall }

-- what an operator's connection says next was answered by the hall of this very service, if it says anything; and this was handed out
abbrev pub AnswersOperator : ServiceRecord → ℕ → Bool → ServiceRecord → Type 0
AnswersOperator s number some t = (handed : Option Handed) × Does s number (was_answered some (moment s handed t)) t

-- there was no memory to answer it
abbrev pub FailsOperator : ServiceRecord → ℕ → ServiceRecord → Type 0
FailsOperator s number t = (handed : Option Handed) × Does s number (failed (moment s handed t)) t

abbrev pub AnswersAt : ServiceRecord → ℕ → Bool → ServiceRecord → Type 0
AnswersAt s number some t =
    ForEach (connection_at s number) ((some ≡ false) × (t ≡ s)) (λ c. AnswersOperator s number some t) (λ f. Serves s number (following.Answers some) t)

abbrev pub FailsAt : ServiceRecord → ℕ → ServiceRecord → Type 0
FailsAt s number t = ForEach (connection_at s number) ⊥ (λ c. FailsOperator s number t) (λ f. Serves s number following.Fails t)

-- ---- What is pushed.

-- the moves of the board that it follows in this very hall while less than this is due, and the end if there is one; nothing once it has
-- left
abbrev pub PushesTo : Bool → FloorRecord → ℕ → Bool → Bool → ConnectionRecord → ConnectionRecord → Type 0
PushesTo true floor most is_ending more f g = (g ≡ following.delivers f g.delivery) × Pushes floor most is_ending f.delivery g.delivery more
PushesTo false floor most is_ending more f g = (more ≡ false) × (g ≡ f)

abbrev pub PushesAt : ServiceRecord → ℕ → ℕ → Bool → ServiceRecord → Type 0
PushesAt s number most more t =
    MatchOption (follower_at s number) ((more ≡ false) × (t ≡ s))
    (λ f. Serves s number (λ f g. PushesTo (follows f.delivery.stage) s.hall.floor most s.is_ending more f g) t)

-- there was no memory
abbrev pub PushFailsTo : ℕ → ConnectionRecord → ConnectionRecord → Type 0
PushFailsTo most f g = (follows f.delivery.stage ≡ true) × (g ≡ following.delivers f g.delivery) × PushFails most f.delivery g.delivery

abbrev pub PushFailsAt : ServiceRecord → ℕ → ℕ → ServiceRecord → Type 0
PushFailsAt s number most t = MatchOption (follower_at s number) ⊥ (λ f. Serves s number (PushFailsTo most) t)

-- ---- What is sent.

-- A connection that follows was first sent what its deeds require of it as an operator's, up to the text that told it that it follows. From
-- then on no deed is its own.
pub record IsOpenedBy (number : ℕ) (takes_keys : Bool) (deeds : List Deed) (f : ConnectionRecord) : Type 0 where
  pub connection : OperatorRecord
  pub served : IsServed number takes_keys deeds connection
  pub handed : connection.stage ≡ HandsOver
  pub due : connection.due ≡ f.delivery.opening

-- What a connection has been sent, and what is due to it, are what its deeds among all turns so far require. Of one that follows these are
-- its opening, and then come the moves of the board that it follows in this very hall.
abbrev pub IsServedIn : ServiceRecord → ℕ → Option Connection → Type 0
IsServedIn s number None = Unit {0}
IsServedIn s number (Some (Operator c here)) = IsServed number s.takes_keys (deeds_of number s.turns) c
IsServedIn s number (Some (Follower f who here)) = IsOpenedBy number s.takes_keys (deeds_of number s.turns) f × IsShown s.hall.floor f.delivery

abbrev pub IsServedAt : ServiceRecord → ℕ → Type 0
IsServedAt s number = IsServedIn s number (connection_at s number)

-- of an operator's connection these bytes were written, which is a deed; of one that follows they are counted as sent
abbrev pub SendsIn : Option Connection → ServiceRecord → ℕ → ℕ → ServiceRecord → Type 0
SendsIn None s number n t = t ≡ s
SendsIn (Some (Operator c here)) s number n t = Does s number (wrote (take n c.due)) t
SendsIn (Some (Follower f who here)) s number n t = Serves s number (λ f g. g ≡ following.delivers f (following.wrote f.delivery n)) t

abbrev pub SendsAt : ServiceRecord → ℕ → ℕ → ServiceRecord → Type 0
SendsAt s number n t = SendsIn (connection_at s number) s number n t

-- a frame is put behind what is due to it, if it asks or follows
abbrev pub PutsAt : ServiceRecord → ℕ → (Bool → Deed) → (ConnectionRecord → ConnectionRecord) → ServiceRecord → Type 0
PutsAt s number x put t = ForEach (connection_at s number) (t ≡ s) (λ c. Does s number (x (asks c.stage)) t) (λ f. Serves s number (λ f g. g ≡ put f) t)

-- ---- Who goes.

-- The connection of this number goes from the hall, as who it is there. What has its number then is this. It is the last of the turns.
pub record Departs (s : ServiceRecord) (number : ℕ) (who : Owner) (c : Option Connection) (t : ServiceRecord) : Type 0 where
  pub there : owner_at s number ≡ Some who
  pub step : HallStep s.hall (Goes who) Silent t.hall
  pub connections : Replaces number c s.connections t.connections
  pub rest : t ≡ record s { hall = t.hall; connections = t.connections; turns = s.turns ++ passes (Goes who) Silent ∷ [] }

-- it is not present in the hall any more; if it follows, it has left its board
abbrev pub LeftAs : Connection → Connection → Type 0
LeftAs (Operator c here) after = after ≡ Operator c false
LeftAs (Follower f who here) after = after ≡ Follower (following.gone f) who false

abbrev pub LeavesAs : ServiceRecord → ℕ → Owner → ServiceRecord → Type 0
LeavesAs s number who t =
    (before : Connection) × (after : Connection) × (connection_at s number ≡ Some before) × LeftAs before after × Departs s number who (Some after) t

abbrev pub LeavesAt : ServiceRecord → ℕ → ServiceRecord → Type 0
LeavesAt s number t = MatchOption (owner_at s number) (t ≡ s) (λ who. LeavesAs s number who t)

abbrev pub DisconnectsAt : ServiceRecord → ℕ → ServiceRecord → Type 0
DisconnectsAt s number t = MatchOption (owner_at s number) (Forgets s number t) (λ who. Departs s number who None t)

-- ---- What is done to one connection.

-- it is an operator's, of which this is true; or it is none
abbrev pub IfOperator : Connection → (OperatorRecord → Bool → Type 0) → Type 0
IfOperator (Operator c here) P = P c here
IfOperator (Follower f who here) P = Unit {0}

-- the same of one that is present in the hall
abbrev pub IfPresent : Connection → (OperatorRecord → Type 0) → Type 0
IfPresent c P = MatchOption (present_in (Some c)) (Unit {0}) P

-- it follows, and becomes another such connection of which this is true; or it does not follow
abbrev pub IfFollows : Connection → (ConnectionRecord → ConnectionRecord → Type 0) → Connection → Type 0
IfFollows (Operator c here) P after = Unit {0}
IfFollows (Follower f who here) P after = (g : ConnectionRecord) × P f g × (after ≡ Follower g who here)

abbrev pub FeedsTo : OperatorRecord → List ℕ → Option (List ℕ) → Connection → Type 0
FeedsTo c bytes key after = (d : OperatorRecord) × Feeds c bytes d × (after ≡ Operator d true) × (key ≡ arrival c d)

abbrev pub AnswersNextTo : OperatorRecord → Bool → HallRecord → Option Handed → HallRecord → Connection → Type 0
AnswersNextTo c some k handed l after = (d : OperatorRecord) × AnswersNext some c k handed l d × (after ≡ Operator d true)

-- it was heard, and follows if something was handed out
abbrev pub AnswersTo : OperatorRecord → Bool → HallRecord → Option Handed → HallRecord → Connection → Type 0
AnswersTo c some k handed l after = (d : OperatorRecord) × AnswersNext some c k handed l d × (after ≡ heard_as handed d true)

-- there was no memory: what was handed out has left its board again
abbrev pub FailsTo : OperatorRecord → HallRecord → Option Handed → HallRecord → Connection → Type 0
FailsTo c k handed l after = (d : OperatorRecord) × Fails c k handed l d × (after ≡ Operator d true)
