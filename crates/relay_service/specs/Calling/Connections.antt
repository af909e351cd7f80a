-- Any number of connections over one hall.
use Rattle.std.specs.Prelude.{◌≡◌, ◌⊎◌, ℕ, nat_eq, List, [], ◌∷◌, false, cond}
use Rattle.relay_core.specs.declared.step.Step.{Step}
use Rattle.relay_core.specs.History.{History}
use Rattle.relay_hall.specs.declared.owner.Owner.{Owner}
use Rattle.relay_hall.specs.Record.{HallRecord}
use Rattle.relay_hall.specs.Runs.{HallEvent, HallRuns, HallStep, HallTold, Says}
use Rattle.relay_service.specs.Calling.Answering.{OperatorRecord}
use Rattle.relay_service.specs.Calling.Running.{Deed, IsDone, Moment, came, failed, was_answered, was_pinged, was_sent_away, wrote}

-- the hall as it stands, and the connections by their numbers
pub record ConnectionsRecord : Type 0 where
  pub hall : HallRecord
  pub peers : ℕ → OperatorRecord

pub data Turn : Type 0 where
  -- something happens to one connection
  happens : ℕ → Deed → Turn
  -- an event of the hall that no connection says: somebody comes or goes, or time passes
  passes : HallEvent → HallTold → Turn

-- the hall at this moment is the one that stands, and the one then stands afterwards
abbrev pub IsAt : HallRecord → Moment → HallRecord → Type 0
IsAt k m l = (m.before ≡ k) × (l ≡ m.after)

-- what is answered is answered by the hall as it stands
abbrev pub LeadsHall : HallRecord → Deed → HallRecord → Type 0
LeadsHall k (came bytes) l = l ≡ k
LeadsHall k (was_answered some m) l = IsAt k m l
LeadsHall k (failed m) l = IsAt k m l
LeadsHall k (wrote bytes) l = l ≡ k
LeadsHall k (was_pinged some) l = l ≡ k
LeadsHall k (was_sent_away some code) l = l ≡ k

abbrev pub OthersStay : ℕ → (ℕ → OperatorRecord) → (ℕ → OperatorRecord) → Type 0
OthersStay i before after = (j : ℕ) → nat_eq i j ≡ false → after j ≡ before j

abbrev pub IsTaken : ConnectionsRecord → Turn → ConnectionsRecord → Type 0
IsTaken f (happens i x) g = IsDone (f.peers i) x (g.peers i) × OthersStay i f.peers g.peers × LeadsHall f.hall x g.hall
IsTaken f (passes e told) g = HallStep f.hall e told g.hall × (g.peers ≡ f.peers)

abbrev pub Turns : ConnectionsRecord → List Turn → ConnectionsRecord → Type 0
Turns f [] g = g ≡ f
Turns f (x ∷ xs) g = (mid : ConnectionsRecord) × IsTaken f x mid × Turns mid xs g

-- what happened to one of them
abbrev pub deeds_of : ℕ → List Turn → List Deed
deeds_of i [] = []
deeds_of i (happens j x ∷ xs) = cond (nat_eq j i) (x ∷ deeds_of i xs) (deeds_of i xs)
deeds_of i (passes e told ∷ xs) = deeds_of i xs

-- ---- What they make of the hall.

-- these events are one step of this owner, or none
abbrev pub OneOrNone : Owner → List HallEvent → List HallEvent → Type 0
OneOrNone who events rest = ((step : Step) × (events ≡ Says who step ∷ rest)) ⊎ (events ≡ rest)

-- the events of turns in order: what is answered is one step at most, said by the connection's owner
abbrev pub AreEventsOf : (ℕ → Owner) → List Turn → List HallEvent → Type 0
AreEventsOf who [] events = events ≡ []
AreEventsOf who (happens i (came bytes) ∷ xs) events = AreEventsOf who xs events
AreEventsOf who (happens i (was_answered some m) ∷ xs) events = (rest : List HallEvent) × OneOrNone (who i) events rest × AreEventsOf who xs rest
AreEventsOf who (happens i (failed m) ∷ xs) events = (rest : List HallEvent) × OneOrNone (who i) events rest × AreEventsOf who xs rest
AreEventsOf who (happens i (wrote bytes) ∷ xs) events = AreEventsOf who xs events
AreEventsOf who (happens i (was_pinged some) ∷ xs) events = AreEventsOf who xs events
AreEventsOf who (happens i (was_sent_away some code) ∷ xs) events = AreEventsOf who xs events
AreEventsOf who (passes e told ∷ xs) events = (rest : List HallEvent) × (events ≡ e ∷ rest) × AreEventsOf who xs rest

-- from this hall and this history the turns are a run of the hall
pub record IsOneRun (k : HallRecord) (who : ℕ → Owner) (turns : List Turn) (l : HallRecord) (before : History) : Type 0 where
  pub events : List HallEvent
  pub told : List HallTold
  pub history : History
  pub run : HallRuns k before events told history l
  pub made : AreEventsOf who turns events
