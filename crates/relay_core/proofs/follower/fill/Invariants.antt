use Rattle.std.proofs.Common.{◌≡◌}
use Rattle.relay_core.specs.Following.{stretch}
use Rattle.relay_core.proofs.follower.fill.Given as goal

abbrev pub invariant-loop-at : goal.invariant-loop-at
invariant-loop-at l = record {
  filled : l.queue.items ≡ stretch l.place l.at l.game.log;
  capacity : l.queue.capacity ≡ l.fn.queue.capacity;
}
