-- What a service shows of its fields, and what is kept true of it.
use Rattle.std.specs.Prelude.{◌≡◌, ◌≤◌, ◌<◌, ◌+◌, ℕ, nat_eq, Bool, cond, true, false, List, [], ◌∷◌, length, Some, None}
use Rattle.std.specs.Map.{lookup}
use Rattle.c960_game.specs.Limits.{LimitNumbers}
use Rattle.relay_core.specs.Name.{same_name}
use Rattle.relay_pushing.specs.Connections.{is_among}
use Rattle.relay_hall.specs.declared.owner.Owner.{Owner}
use Rattle.relay_hall.specs.Keys.{same_key}
use Rattle.relay_hall.specs.Record.{FloorRecord, HallBoard, nobody_yet}
use Rattle.relay_hall.specs.Runs.{HallEvent, counts_after, has_gone}
use Rattle.relay_service.specs.Calling.Answering.{OperatorRecord, newcomer}
use Rattle.relay_service.specs.Calling.Coming.{comes}
use Rattle.relay_service.specs.Calling.Connections.{ConnectionsRecord, Turns, deeds_of}
use Rattle.relay_service.specs.declared.calling.stage.Stage.TheVariants.{HandsOver}
use Rattle.relay_service.specs.Following.Boards.{IsIn}
use Rattle.relay_service.specs.declared.connection.Connection.{Connection}
use Rattle.relay_service.specs.declared.connection.Connection.TheVariants.{Operator, Follower}
use Rattle.relay_service.specs.declared.service.Service.TheInside.{Inside}
use Rattle.relay_service.specs.Record.{ServiceRecord, connection_at, owner_at}
use Rattle.relay_service.specs.Runs.{IsOrderlyService}

abbrev pub service_of : Inside → ServiceRecord
service_of a = record {
  hall = a.hall;
  connections = a.connections.entries;
  next = a.next;
  takes_keys = a.takes_keys;
  is_ending = a.is_ending;
  limits = a.limits.value;
  grace = a.grace.value;
  restarted = length a.restarted.value.items;
  turns = a.turns.items;
}

-- an empty hall of these limits and this grace, and newcomers with all numbers
abbrev pub beginning : LimitNumbers → ℕ → Bool → ConnectionsRecord
beginning limits grace takes_keys = record { hall = nobody_yet limits grace; peers = λ i. newcomer i takes_keys }

-- this is what the connection is as an operator's; or what it was when it was handed out what it follows, and its opening was due to it
abbrev pub IsOperatorOf : OperatorRecord → Connection → Type 0
IsOperatorOf d (Operator c here) = d ≡ c
IsOperatorOf d (Follower f who here) = (d.who ≡ who) × (d.stage ≡ HandsOver) × (d.due ≡ f.delivery.opening)

-- The turns lead from an empty hall and newcomers to this hall and these connections; numbers from the next on were never used. Turns by
-- which a hall was made again are no deeds, so that all are newcomers behind them.
pub record IsLedTo (s : ServiceRecord) : Type 0 where
  pub peers : ℕ → OperatorRecord
  pub run : Turns (beginning s.limits s.grace s.takes_keys) s.turns (record { hall = s.hall; peers = peers })
  pub there : (i : ℕ) (c : Connection) → connection_at s i ≡ Some c → IsOperatorOf (peers i) c
  pub known : (i : ℕ) (c : Connection) → connection_at s i ≡ Some c → i < s.next
  pub yet : (i : ℕ) → s.next ≤ i → peers i ≡ newcomer i s.takes_keys
  pub unused : (i : ℕ) → s.next ≤ i → deeds_of i s.turns ≡ []

-- how many of those that are here have this key
abbrev pub count_of : List ℕ → List (ℕ × List ℕ) → ℕ
count_of q [] = 0
count_of q (e ∷ es) = cond (same_key q e.1) (count_of q es + 1) (count_of q es)

-- Whoever is in the hall by this number has that number, has not gone, and with a key is among those here.
pub record IsSeated (events : List HallEvent) (here : List (ℕ × List ℕ)) (i : ℕ) (who : Owner) : Type 0 where
  pub numbered : who.opener ≡ i
  pub alive : has_gone i events ≡ false
  pub listed : (key : List ℕ) → who.key ≡ Some key → lookup (nat_eq i) here ≡ Some key

-- a connection names a key by its request alone, and opens no board before
abbrev pub NamesNone : OperatorRecord → Type 0
NamesNone c = comes c.stage ≡ true → (c.who.key ≡ None) × (c.boards ≡ [])

abbrev pub NamesNoneYet : Connection → Type 0
NamesNoneYet (Operator c here) = NamesNone c
NamesNoneYet (Follower f who here) = Unit {0}

-- each board that this one has opened is there, and belongs to it
abbrev pub AreOpened : FloorRecord → Owner → List (List ℕ) → Type 0
AreOpened f who opened = (name : List ℕ) → is_among name opened ≡ true → (b : HallBoard) × (lookup (same_name name) f.boards ≡ Some b) × (b.owner ≡ who)

abbrev pub OwnsOpened : FloorRecord → Connection → Type 0
OwnsOpened f (Operator c true) = AreOpened f c.who c.boards
OwnsOpened f (Operator c false) = Unit {0}
OwnsOpened f (Follower g who here) = Unit {0}

pub record IsOrdered (s : ServiceRecord) : Type 0 where
  pub book : IsOrderlyService s
  pub fresh : (i : ℕ) → s.next ≤ i → has_gone i book.events ≡ false
  -- those that have come with a key and have not gone, by their numbers
  pub here : List (ℕ × List ℕ)
  pub counted : (q : List ℕ) → counts_after (λ key. 0) book.events q ≡ count_of q here
  pub seated : (i : ℕ) (who : Owner) → owner_at s i ≡ Some who → IsSeated book.events here i who
  pub coming : (i : ℕ) (c : Connection) → connection_at s i ≡ Some c → NamesNoneYet c
  pub opened : (i : ℕ) (c : Connection) → connection_at s i ≡ Some c → OwnsOpened s.hall.floor c

-- one that follows does so in this hall
abbrev pub IsJoined : FloorRecord → Connection → Type 0
IsJoined f (Operator c here) = Unit {0}
IsJoined f (Follower g who here) = IsIn f g.delivery

abbrev pub AreJoined : ServiceRecord → Type 0
AreJoined s = (i : ℕ) (c : Connection) → connection_at s i ≡ Some c → IsJoined s.hall.floor c

pub record IsService (a : Inside) : Type 0 where
  pub led : IsLedTo (service_of a)
  pub ordered : IsOrdered (service_of a)
  pub joined : AreJoined (service_of a)
