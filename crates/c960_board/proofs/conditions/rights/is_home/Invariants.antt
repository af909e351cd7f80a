use Rattle.std.proofs.Common.{◌<◌, ℕ, IsTrue}
use Rattle.c960_board.specs.Cells.{has_right}
use Rattle.c960_board.proofs.conditions.rights.is_home.Given as goal

abbrev pub invariant-loop-file : goal.invariant-loop-file
invariant-loop-file l = (f : ℕ) → f < l.file → IsTrue (has_right l.rights l.colour f) → ⊥
