use Rattle.std.proofs.Common.{rules, refl}
use Rattle.relay960_engines.proofs.PlayRunFacts.{played, play_stopped, starved_before}
use Rattle.relay960_engines.proofs.play.play_run.Goals as goal

pub returns-in-Err : goal.returns-in-Err
returns-in-Err g c =
    record {
      done = tt;
      failed = starved_before c.args.number c.args.limits.bounds _ _ (search rules);
      reads_counted = refl;
      writes_counted = refl;
    }

pub returns-clause-done : goal.returns-clause-done
returns-clause-done g c =
    played _ (λ player. player.game) (λ s l bytes t given. given) _ _ c.args.number _ (search rules) (search rules) _ _ _ _ _
    (rw c.bounds.ensures.value at c.run_lines.ensures.done)

pub returns-clause-failed : goal.returns-clause-failed
returns-clause-failed g c =
    play_stopped _ (λ player. player.game) (λ s l bytes t given. given) _ _ c.args.number _ (search rules) (search rules)
    _ _ _ _ _ (rw c.bounds.ensures.value at c.run_lines.ensures.failed)
