use Rattle.std.proofs.Common.{◌≡◌}
use Rattle.live_board.specs.Sound.{IsSound}
use Rattle.live_board.specs.TableWriter.{CheckedBelow}
use Rattle.live_board.proofs.table_writer.TableWriter.check_all.Given as goal

abbrev pub invariant-loop-slot : goal.invariant-loop-slot
invariant-loop-slot l = (l.self.table ≡ l.initial.self.table) × CheckedBelow l.slot l.initial.self.knows l.self.knows × IsSound l.self.knows
