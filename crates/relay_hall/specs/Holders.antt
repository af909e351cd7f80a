-- Which presence each key has, among those that connections hold and those whose boards wait.
use Rattle.std.specs.Prelude.{◌≡◌, ℕ, cond, List, [], ◌∷◌, Bool, true, false, ◌&&◌, is_none, nat_le, ◌≤◌, Option, None, Some, IfSome, ⊤}
use Rattle.relay_hall.specs.declared.holders.Departure.{Departure}
use Rattle.relay_hall.specs.declared.holders.Departure.TheVariants.{OneOfMore, Last, Waits as WaitsOn}
use Rattle.relay_hall.specs.declared.holders.Holder.{Holder}
use Rattle.relay_hall.specs.declared.presence.Presence.{Presence}
use Rattle.relay_hall.specs.declared.presence.Presence.TheVariants.{Here, Waits}
use Rattle.relay_hall.specs.Holding.{IsDue, with_one_less, with_one_more}
use Rattle.relay_hall.specs.Keys.{same_key}

-- the presence of a key, or none
abbrev pub presence_of : List ℕ → List Holder → Option Presence
presence_of key [] = None
presence_of key (holder ∷ holders) = cond (same_key key holder.key) (Some holder.presence) (presence_of key holders)

-- whether no key occurs twice
abbrev pub stand_once : List Holder → Bool
stand_once [] = true
stand_once (holder ∷ holders) = is_none (presence_of holder.key holders) && stand_once holders

-- all keys but this one have the presence that they had
abbrev pub OthersStay : List ℕ → List Holder → List Holder → Type 0
OthersStay key old new = (other : List ℕ) → same_key other key ≡ false → presence_of other new ≡ presence_of other old

-- a connection with the key has come: it is counted, or is the first
abbrev pub with_newcomer : Option Presence → Option Presence
with_newcomer None = Some (Here 1)
with_newcomer (Some presence) = with_one_more presence

-- a connection with the key has gone
abbrev pub without_one : Option Presence → Option ℕ → Option Presence
without_one None until = None
without_one (Some presence) until = with_one_less presence until

-- whether the boards of the key wait
abbrev pub is_waiting : Option Presence → Bool
is_waiting None = false
is_waiting (Some (Here present)) = false
is_waiting (Some (Waits until)) = true

-- what happened to a key that has this presence left
abbrev pub departure : Option Presence → Departure
departure None = Last
departure (Some (Here present)) = OneOfMore
departure (Some (Waits until)) = WaitsOn

-- the boards of the key have waited until now; without a time, they wait
abbrev pub HasRunOut : Option ℕ → Option Presence → Type 0
HasRunOut now None = ⊥
HasRunOut now (Some presence) = IsDue now presence

-- no key's boards have done so
abbrev pub NoneHasRunOut : Option ℕ → List Holder → Type 0
NoneHasRunOut now holders = (key : List ℕ) → HasRunOut now (presence_of key holders) → ⊥

-- the same as a test
abbrev pub is_due : Option ℕ → Presence → Bool
is_due now (Here present) = false
is_due None (Waits until) = true
is_due (Some now) (Waits until) = nat_le until now

abbrev pub has_run_out : Option ℕ → Option Presence → Bool
has_run_out now None = false
has_run_out now (Some presence) = is_due now presence

-- each key whose boards have done so is gone, and the others have the presence that they had
abbrev pub AllRunOut : Option ℕ → List Holder → List Holder → Type 0
AllRunOut now old new = (key : List ℕ) → presence_of key new ≡ cond (has_run_out now (presence_of key old)) None (presence_of key old)

-- no key's boards wait until an earlier time than this; without a time, none wait
abbrev pub IsFirst : Option ℕ → Option Presence → Type 0
IsFirst next None = ⊤
IsFirst next (Some (Here present)) = ⊤
IsFirst None (Some (Waits until)) = ⊥
IsFirst (Some next) (Some (Waits until)) = next ≤ until

-- the time until which the boards of a key wait, and those of no key until an earlier one; none if no boards wait
pub record IsNextDue (holders : List Holder) (next : Option ℕ) : Type 0 where
  pub some : IfSome next (λ until. (key : List ℕ) × (presence_of key holders ≡ Some (Waits until)))
  pub first : (key : List ℕ) → IsFirst next (presence_of key holders)
