use Rattle.std.proofs.Common.{◌≡◌, ◌++◌}
use Rattle.relay_core.specs.Following.{stretch}
use Rattle.relay_hall.proofs.shown.append_log.Given as goal

abbrev pub invariant-loop-at : goal.invariant-loop-at
invariant-loop-at l = l.moves.items ≡ l.fn.moves.items ++ stretch l.from l.at l.board.knows.log
