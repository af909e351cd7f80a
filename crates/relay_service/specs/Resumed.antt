-- A service that goes on with a hall that was made again before any connection came.
use Rattle.std.specs.Prelude.{◌≡◌, ℕ, Bool, false, List, [], ◌∷◌, length}
use Rattle.c960_game.specs.Limits.{LimitNumbers}
use Rattle.relay_hall.specs.Record.{HallRecord}
use Rattle.relay_hall.specs.Restart.{IsRestart}
use Rattle.relay_hall.specs.Runs.{HallEvent, HallTold}
use Rattle.relay_service.specs.Calling.Connections.{Turn, passes}
use Rattle.relay_service.specs.Record.{ServiceRecord}

-- each event as a turn, with what it was told
abbrev pub passing : List HallEvent → List HallTold → List Turn
passing [] told = []
passing (e ∷ es) [] = []
passing (e ∷ es) (t ∷ ts) = passes e t ∷ passing es ts

-- by these turns the hall was made again
abbrev pub AreOfRestart : LimitNumbers → ℕ → ℕ → HallRecord → List Turn → Type 0
AreOfRestart limits grace next hall turns = (restart : IsRestart limits grace next hall) × (turns ≡ passing restart.events restart.told)

-- there are no connections yet, and nothing was done but that the hall was made again by these turns
abbrev pub resumed : LimitNumbers → ℕ → ℕ → Bool → HallRecord → List Turn → ServiceRecord
resumed limits grace next takes_keys hall turns = record {
  hall = hall;
  connections = [];
  next = next;
  takes_keys = takes_keys;
  is_ending = false;
  limits = limits;
  grace = grace;
  restarted = length turns;
  turns = turns;
}

abbrev pub IsResumed : LimitNumbers → ℕ → ℕ → Bool → HallRecord → ServiceRecord → Type 0
IsResumed limits grace next takes_keys hall s = (turns : List Turn) × AreOfRestart limits grace next hall turns × (s ≡ resumed limits grace next takes_keys hall turns)
