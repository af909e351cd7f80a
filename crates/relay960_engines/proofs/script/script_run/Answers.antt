use Rattle.std.proofs.Common.{rules}
use Rattle.relay960_engines.proofs.ScriptRunFacts.{ran, script_stopped, starved_before}
use Rattle.relay960_engines.proofs.script.script_run.Goals as goal

pub returns-in_default-clause-failed : goal.returns-in_default-clause-failed
returns-in_default-clause-failed g c = starved_before c.args.limits.limits c.args.limits.bounds _ _

pub returns-clause-done : goal.returns-clause-done
returns-clause-done g c =
    ran _ (λ script. script.relay) (λ s l bytes t given. given) _ _ c.args.limits.limits _ (search rules) _ _ _ _ _
    (rw c.bounds.ensures.value at c.run_speaker.ensures.done)

pub returns-clause-failed : goal.returns-clause-failed
returns-clause-failed g c =
    script_stopped _ (λ script. script.relay) (λ s l bytes t given. given) _ _ c.args.limits.limits _ (search rules) _ _ _ _ _
    (rw c.bounds.ensures.value at c.run_speaker.ensures.failed)
