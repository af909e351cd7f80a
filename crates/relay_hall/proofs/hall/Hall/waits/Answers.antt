use Rattle.std.proofs.Common.{◌≡◌, Option, None, Some, refl, ◌∙◌}
use Rattle.relay_hall.specs.declared.presence.Presence.{Presence}
use Rattle.relay_hall.specs.declared.presence.Presence.TheVariants.{Here, Waits}
use Rattle.relay_hall.specs.Holders.{has_run_out, is_waiting, presence_of}
use Rattle.relay_hall.proofs.hall.Hall.waits.Goals as goal

-- without a time, those have run out that wait
waiting_runs_out : (p : Option Presence) → has_run_out None p ≡ is_waiting p
waiting_runs_out None = refl
waiting_runs_out (Some (Here present)) = refl
waiting_runs_out (Some (Waits until)) = refl

pub returns : goal.returns
returns c = rw (← c.self.view_is) (c.has_run_out.ensures ∙ waiting_runs_out (presence_of c.args.key.now c.self.inside.holders.rows.items))
