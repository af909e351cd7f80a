-- A restart as events of a hall: each entry is said again by a connection of its own, and then all of these go.
use Rattle.std.specs.Prelude.{◌≡◌, ◌≢◌, ℕ, ◌+◌, true, List, [], ◌∷◌, ◌++◌, take, slice_get, Option, Some, None}
use Rattle.c960_game.specs.declared.refusal.Refusal.{Refusal}
use Rattle.c960_game.specs.declared.refusal.Refusal.TheVariants.{OutOfMemory}
use Rattle.c960_game.specs.Limits.{LimitNumbers}
use Rattle.relay_core.specs.declared.reply.Reply.TheVariants.{Refused}
use Rattle.relay_core.specs.History.{History, is_accepted}
use Rattle.relay_hall.specs.declared.handed.Handed.{Handed}
use Rattle.relay_hall.specs.declared.owner.Owner.{Owner}
use Rattle.relay_hall.specs.Record.{HallRecord, nobody_yet}
use Rattle.relay_hall.specs.Runs.{HallEvent, Comes, Says, Goes, Time, HallTold, Replied, Silent, HallStep, HallRuns}
use Rattle.relay_journal.specs.declared.entry.Entry.{Entry}
use Rattle.relay_journal.specs.declared.entry.Entry.TheVariants.{Opens, Plays, Ends}
use Rattle.relay_journal.specs.Kept.{key_of, step_of}

-- whoever says an entry again: a connection of this number, with the key of an open
abbrev pub sayer : ℕ → Entry → Owner
sayer who e = record { key = key_of e; opener = who }

-- it comes, if it has a key
abbrev pub comes : Option (List ℕ) → List HallEvent
comes None = []
comes (Some key) = Comes key ∷ []

abbrev pub said_again : ℕ → Entry → List HallEvent
said_again who e = comes (key_of e) ++ Says (sayer who e) (step_of e) ∷ []

-- what connections do, each about one entry, by their numbers from this one on
abbrev pub each_from : (ℕ → Entry → List HallEvent) → ℕ → List Entry → List HallEvent
each_from act who [] = []
each_from act who (e ∷ es) = act who e ++ each_from act (who + 1) es

abbrev pub said_from : ℕ → List Entry → List HallEvent
said_from who es = each_from said_again who es

-- whoever has opened a board goes; nobody else has anything to leave
abbrev pub goes : ℕ → Entry → List HallEvent
goes who (Opens name start key) = Goes (record { key = key; opener = who }) ∷ []
goes who (Plays name m) = []
goes who (Ends name ending) = []

abbrev pub gone_from : ℕ → List Entry → List HallEvent
gone_from who es = each_from goes who es

-- the time of the restart comes when all is said, so that whatever waits then has its whole time
abbrev pub restart : ℕ → List Entry → List HallEvent
restart now es = said_from 0 es ++ Time now ∷ gone_from 0 es

-- each step was accepted
abbrev pub AllAccepted : List HallTold → Type 0
AllAccepted [] = Unit {0}
AllAccepted (Replied reply handed ∷ ts) = (is_accepted reply ≡ true) × AllAccepted ts
AllAccepted (Silent ∷ ts) = AllAccepted ts

-- these events lead from one hall to another, and each step was accepted
pub record Leads (k : HallRecord) (h : History) (es : List HallEvent) (l : HallRecord) : Type 0 where
  pub told : List HallTold
  pub history : History
  pub run : HallRuns k h es told history l
  pub accepted : AllAccepted told

-- a hall where nobody was is led to this one by a restart
abbrev pub IsRestarted : LimitNumbers → ℕ → ℕ → List Entry → HallRecord → Type 0
IsRestarted limits grace now es k = Leads (nobody_yet limits grace) [] (restart now es) k

-- ---- Refusals.

-- a hall refuses an entry when it is said again, and not for want of memory
pub record IsRefusedBy (k : HallRecord) (who : ℕ) (e : Entry) : Type 0 where
  pub there : HallRecord
  pub came : (h : History) → Leads k h (comes (key_of e)) there
  pub refusal : Refusal
  pub handed : Option Handed
  pub after : HallRecord
  pub refused : HallStep there (Says (sayer who e) (step_of e)) (Replied (Refused refusal) handed) after
  pub ground : refusal ≢ OutOfMemory

-- it refuses the entry of this place, once those before it were said
pub record IsRefusedAt (k : HallRecord) (es : List Entry) (at : ℕ) : Type 0 where
  pub entry : Entry
  pub placed : slice_get es at ≡ Some entry
  pub there : HallRecord
  pub before : Leads k [] (said_from 0 (take at es)) there
  pub refused : IsRefusedBy there at entry
