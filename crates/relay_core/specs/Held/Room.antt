-- The room of a relay's maps: how much more they hold without further memory.
use Rattle.std.specs.Prelude.{◌≡◌, ℕ, ◌≤◌}
use Rattle.relay_core.specs.declared.step.Step.{Step}
use Rattle.relay_core.specs.declared.step.Step.TheVariants.{Open, Submit, End, Follow, Take, Leave}
use Rattle.relay_core.specs.State.{RelayRecord}

-- how many more boards fit without further memory, and how many more followers, their queues aside
pub record Room : Type 0 where
  pub boards : ℕ
  pub followers : ℕ

-- what contracts see of a relay, and its room
pub record Holding : Type 0 where
  pub shown : RelayRecord
  pub room : Room

-- What a step does to the room. A Submit, an End and a Take leave it as it was. A Leave keeps that of the boards, and does not reduce that
-- of the followers. An Open and a Follow may change it.
abbrev pub KeepsRoom : Step → Room → Room → Type 0
KeepsRoom (Open board start) old later = Unit {0}
KeepsRoom (Submit board m) old later = later ≡ old
KeepsRoom (End board ending) old later = later ≡ old
KeepsRoom (Follow who board from) old later = Unit {0}
KeepsRoom (Take who) old later = later ≡ old
KeepsRoom (Leave who) old later = (later.boards ≡ old.boards) × (old.followers ≤ later.followers)
