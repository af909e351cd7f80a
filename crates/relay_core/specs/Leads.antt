-- A step from one relay to the next.
use Rattle.std.specs.Prelude.{◌∷◌}
use Rattle.c960_game.specs.Limits.{LimitNumbers}
use Rattle.relay_core.specs.declared.step.Step.{Step}
use Rattle.relay_core.specs.declared.reply.Reply.{Reply}
use Rattle.relay_core.specs.History.{History}
use Rattle.relay_core.specs.Stands.{Stands}
use Rattle.relay_core.specs.State.{RelayRecord}

-- if the first relay stands at a history, the second stands at that history with the step and its reply
abbrev pub Leads : RelayRecord → RelayRecord → Step → Reply → Type 0
Leads old later step reply =
    (limits : LimitNumbers) (h : History) → Stands limits old h → Stands limits later ((step, reply) ∷ h)
