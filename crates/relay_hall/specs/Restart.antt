-- A hall that was made again before its connections come.
use Rattle.std.specs.Prelude.{◌≡◌, ◌≤◌, ℕ, false, List, []}
use Rattle.c960_game.specs.Limits.{LimitNumbers}
use Rattle.relay_core.specs.History.{History}
use Rattle.relay_hall.specs.Record.{HallRecord, nobody_yet}
use Rattle.relay_hall.specs.Runs.{AllSayWhileThere, HallEvent, HallRuns, HallTold, IsOrderly, counts_after, has_gone}

-- Some events led from nobody to this hall. Nobody says anything after going, and with a key nobody does who has not come; all who came
-- with a key have gone, and nobody went by a number from `next` on.
pub record IsRestart (limits : LimitNumbers) (grace next : ℕ) (hall : HallRecord) : Type 0 where
  pub events : List HallEvent
  pub told : List HallTold
  pub history : History
  pub run : HallRuns (nobody_yet limits grace) [] events told history hall
  pub orderly : IsOrderly events
  pub there : AllSayWhileThere (λ key. 0) events
  pub all_gone : (key : List ℕ) → counts_after (λ key. 0) events key ≡ 0
  pub fresh : (i : ℕ) → next ≤ i → has_gone i events ≡ false
