-- What a session's keeper finds behind the lock: some hall that events have led to. No contract says which.
use Rattle.std.specs.Prelude.{◌≡◌, ℕ, List, Bool, false, Option, is_some}
use Rattle.std.specs.Map.{lookup}
use Rattle.relay_core.specs.Name.{same_name}
use Rattle.relay_core.specs.declared.reply.Reply.{Reply}
use Rattle.relay_core.specs.declared.step.Step.{Step}
use Rattle.relay_pushing.specs.Connections.{Question, Knows, Owns, OwnsAny}
use Rattle.relay_hall.specs.declared.handed.Handed.{Handed}
use Rattle.relay_hall.specs.declared.owner.Owner.{Owner}
use Rattle.relay_hall.specs.Record.{HallRecord}
use Rattle.relay_hall.specs.Runs.{IsReached}
use Rattle.relay_hall.specs.Steps.{Makes, latest}

-- the keeper of a connection: who it is, and the follower that was handed out to it and not taken yet
pub record KeeperState : Type 0 where
  pub speaker : Owner
  pub handed : Option Handed

-- whether there is a board of this name, in some hall
pub record IsKnown (name : List ℕ) (answer : Bool) : Type 0 where
  pub hall : HallRecord
  pub reached : IsReached hall
  pub answer_is : answer ≡ is_some (lookup (same_name name) hall.floor.boards)

-- Nothing belongs to a connection but what it opened, since it has no key.
abbrev pub Tells : Question → Bool → Type 0
Tells (Knows name) answer = IsKnown name answer
Tells (Owns name) answer = answer ≡ false
Tells OwnsAny answer = answer ≡ false

-- the step is made in some hall, which it leads to another one
pub record IsMade (speaker : Owner) (step : Step) (reply : Reply) (handed : Option Handed) : Type 0 where
  pub before : HallRecord
  pub after : HallRecord
  pub reached : IsReached before × IsReached after
  pub makes : Makes before.floor speaker step reply handed after.floor

-- the same by a keeper: what is handed out is kept
pub record KeeperMakes (s : KeeperState) (step : Step) (reply : Reply) (t : KeeperState) : Type 0 where
  pub handed : Option Handed
  pub made : IsMade s.speaker step reply handed
  pub speaker : t.speaker ≡ s.speaker
  pub kept : t.handed ≡ latest handed s.handed
