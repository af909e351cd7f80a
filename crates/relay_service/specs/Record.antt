-- What contracts see of a service, and of its connections.
use Rattle.std.specs.Prelude.{ℕ, nat_eq, Bool, cond, false, true, List, [], Option, None, Some}
use Rattle.std.specs.Map.{lookup}
use Rattle.c960_game.specs.Limits.{LimitNumbers}
use Rattle.relay_hall.specs.declared.owner.Owner.{Owner}
use Rattle.relay_hall.specs.Record.{HallRecord, nobody_yet}
use Rattle.relay_service.specs.Calling.Answering.{OperatorRecord, newcomer}
use Rattle.relay_service.specs.Calling.Connections.{Turn}
use Rattle.relay_service.specs.Following.Record.{ConnectionRecord}
use Rattle.relay_service.specs.declared.connection.Connection.{Connection}
use Rattle.relay_service.specs.declared.connection.Connection.TheVariants.{Operator, Follower}

-- the hall; the connections that are there, by their numbers; the number of the next one; whether requests may name keys; whether the end
-- of all was called; the limits and the grace with which the hall began; how many of the turns made it again before any connection came;
-- and all turns so far, the first one first
pub record ServiceRecord : Type 0 where
  pub hall : HallRecord
  pub connections : List (ℕ × Connection)
  pub next : ℕ
  pub takes_keys : Bool
  pub is_ending : Bool
  pub limits : LimitNumbers
  pub grace : ℕ
  pub restarted : ℕ
  pub turns : List Turn

-- there are no boards and no connections yet, and nothing was done
abbrev pub begun : LimitNumbers → ℕ → Bool → ServiceRecord
begun limits grace takes_keys = record {
  hall = nobody_yet limits grace;
  connections = [];
  next = 0;
  takes_keys = takes_keys;
  is_ending = false;
  limits = limits;
  grace = grace;
  restarted = 0;
  turns = [];
}

-- a connection of which nothing has come yet
abbrev pub opened : ℕ → Bool → Connection
opened number takes_keys = Operator (newcomer number takes_keys) true

-- the connection of a number, if there is one
abbrev pub connection_in : List (ℕ × Connection) → ℕ → Option Connection
connection_in connections number = lookup (nat_eq number) connections

-- the connection of an operator, if it is one
abbrev pub operator_in : Option Connection → Option OperatorRecord
operator_in None = None
operator_in (Some (Operator c here)) = Some c
operator_in (Some (Follower f who here)) = None

-- the same, if it is present in the hall
abbrev pub present_in : Option Connection → Option OperatorRecord
present_in None = None
present_in (Some (Operator c here)) = cond here (Some c) None
present_in (Some (Follower f who here)) = None

-- the connection of one that follows, if it does
abbrev pub follower_in : Option Connection → Option ConnectionRecord
follower_in None = None
follower_in (Some (Operator c here)) = None
follower_in (Some (Follower f who here)) = Some f

-- who a connection is in the hall, if it is present there
abbrev pub owner_in : Option Connection → Option Owner
owner_in None = None
owner_in (Some (Operator c here)) = cond here (Some c.who) None
owner_in (Some (Follower f who here)) = cond here (Some who) None

-- the bytes due to a connection; none without it
abbrev pub due_in : Option Connection → List ℕ
due_in None = []
due_in (Some (Operator c here)) = c.due
due_in (Some (Follower f who here)) = f.delivery.due

abbrev pub connection_at : ServiceRecord → ℕ → Option Connection
connection_at s number = connection_in s.connections number

abbrev pub operator_at : ServiceRecord → ℕ → Option OperatorRecord
operator_at s number = operator_in (connection_at s number)

abbrev pub present_at : ServiceRecord → ℕ → Option OperatorRecord
present_at s number = present_in (connection_at s number)

abbrev pub follower_at : ServiceRecord → ℕ → Option ConnectionRecord
follower_at s number = follower_in (connection_at s number)

abbrev pub owner_at : ServiceRecord → ℕ → Option Owner
owner_at s number = owner_in (connection_at s number)

abbrev pub due_at : ServiceRecord → ℕ → List ℕ
due_at s number = due_in (connection_at s number)
