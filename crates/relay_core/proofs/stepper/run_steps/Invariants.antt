use Rattle.std.proofs.Common.{◌≡◌, ◌≤◌, length, take, vec_capacity}
use Rattle.c960_game.specs.Limits.{LimitNumbers}
use Rattle.relay_core.specs.History.{History, lived}
use Rattle.relay_core.specs.Stands.{Stands}
use Rattle.relay_core.proofs.stepper.run_steps.Given as goal

abbrev pub invariant-loop-step : goal.invariant-loop-step
invariant-loop-step g l = record {
  room : length l.steps ≤ vec_capacity l.replies;
  count : length l.replies.items ≡ l.step-index;
  stands : (limits : LimitNumbers) (h : History) → Stands limits (g.S.Stepper.record_of l.fn.relay) h
      → Stands limits (g.S.Stepper.record_of l.relay) (lived h (take l.step-index l.steps) l.replies.items);
}
