use Rattle.std.proofs.Common.{◌≡◌, ℕ, ◌<◌}
use mathlib.Core.Option.{some}
use lib.ListN.{get_elem?}
use Rattle.live_board.specs.declared.note.Note.TheVariants.{Vacant}
use Rattle.live_board.proofs.table_writer.TableWriter.vacant.Given as goal

abbrev pub invariant-loop-slot : goal.invariant-loop-slot
invariant-loop-slot l = (j : ℕ) → j < l.slot → get_elem? l.self.knows.notes j ≡ some Vacant → ⊥
