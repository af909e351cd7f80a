use Rattle.std.proofs.Common.{◌≡◌, ◌<◌, ◌≤◌, ℕ, length}
use mathlib.Core.Option.{some}
use lib.ListN.{get_elem?}
use Rattle.live_board.specs.declared.note.Note.TheVariants.{Open}
use Rattle.live_board.specs.Sound.{IsSound}
use Rattle.live_board.specs.TableWriter.{TriedBelow}
use Rattle.live_board.proofs.table_writer.TableWriter.close_each.Given as goal

abbrev pub invariant-loop-slot : goal.invariant-loop-slot
invariant-loop-slot l =
    (l.self.table ≡ l.initial.self.table) × TriedBelow l.slot l.initial.self.knows l.self.knows × IsSound l.self.knows × (l.least ≤ length l.initial.self.knows.log)
    × ((k joined next : ℕ) → k < l.slot → get_elem? l.self.knows.notes k ≡ some (Open joined next) → l.least ≤ next)
