-- What the turns of a service make of its hall.
use Rattle.std.specs.Prelude.{◌≡◌, ◌⊎◌, ◌||◌, ℕ, Bool, false, List, [], ◌∷◌}
use Rattle.c960_game.specs.Limits.{LimitNumbers}
use Rattle.relay_core.specs.declared.step.Step.{Step}
use Rattle.relay_core.specs.History.{History}
use Rattle.relay_hall.specs.declared.owner.Owner.{Owner}
use Rattle.relay_hall.specs.Record.{HallRecord, nobody_yet}
use Rattle.relay_hall.specs.Runs.{AllSayWhileThere, HallEvent, HallRuns, HallTold, IsOrderly, Says, count_after, goes_now}
use Rattle.relay_service.specs.Calling.Connections.{Turn, happens, passes}
use Rattle.relay_service.specs.Calling.Running.{came, failed, was_answered, was_pinged, was_sent_away, wrote}
use Rattle.relay_service.specs.Record.{ServiceRecord}
use Rattle.relay_service.specs.Rights.{AreRightful}

-- these events are one step of the connection of this number, or none, and then the rest
abbrev pub OneOrNoneOf : ℕ → List HallEvent → List HallEvent → Type 0
OneOrNoneOf number events rest = ((who : Owner) × (step : Step) × (who.opener ≡ number) × (events ≡ Says who step ∷ rest)) ⊎ (events ≡ rest)

-- the events of a turn, and then the rest: what is answered is one step at most, said by that connection; what passes is itself
abbrev pub MadeBy : Turn → List HallEvent → List HallEvent → Type 0
MadeBy (happens number (came bytes)) events rest = events ≡ rest
MadeBy (happens number (was_answered some m)) events rest = OneOrNoneOf number events rest
MadeBy (happens number (failed m)) events rest = OneOrNoneOf number events rest
MadeBy (happens number (wrote bytes)) events rest = events ≡ rest
MadeBy (happens number (was_pinged some)) events rest = events ≡ rest
MadeBy (happens number (was_sent_away some code)) events rest = events ≡ rest
MadeBy (passes e told) events rest = events ≡ e ∷ rest

abbrev pub AreMadeBy : List Turn → List HallEvent → Type 0
AreMadeBy [] events = events ≡ []
AreMadeBy (x ∷ xs) events = (rest : List HallEvent) × MadeBy x events rest × AreMadeBy xs rest

-- The turns are a run of the hall from an empty one, and so many of them made it again before any connection came. Nobody says anything
-- after going, and with a key nobody does who has not come. Behind those turns, whoever makes a move or ends a game owns its board.
pub record IsOrderlyRun (limits : LimitNumbers) (grace restarted : ℕ) (turns : List Turn) (hall : HallRecord) : Type 0 where
  pub events : List HallEvent
  pub told : List HallTold
  pub history : History
  pub run : HallRuns (nobody_yet limits grace) [] events told history hall
  pub made : AreMadeBy turns events
  pub orderly : IsOrderly events
  pub there : AllSayWhileThere (λ key. 0) events
  pub rightful : AreRightful restarted (nobody_yet limits grace) [] events told history hall run

abbrev pub IsOrderlyService : ServiceRecord → Type 0
IsOrderlyService s = IsOrderlyRun s.limits s.grace s.restarted s.turns s.hall

-- by one of the turns the connection of this number, without a key, has gone from the hall
abbrev pub leaves_by : ℕ → Turn → Bool
leaves_by number (happens i x) = false
leaves_by number (passes e told) = goes_now number e

abbrev pub has_left : ℕ → List Turn → Bool
has_left number [] = false
has_left number (x ∷ xs) = leaves_by number x || has_left number xs

-- how many connections with each key have come to the hall by the turns and not gone
abbrev pub counts_by : (List ℕ → ℕ) → Turn → List ℕ → ℕ
counts_by count (happens i x) = count
counts_by count (passes e told) = count_after count e

abbrev pub holders_after : (List ℕ → ℕ) → List Turn → List ℕ → ℕ
holders_after count [] = count
holders_after count (x ∷ xs) = holders_after (counts_by count x) xs
