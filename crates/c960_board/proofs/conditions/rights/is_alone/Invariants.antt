use Rattle.std.proofs.Common.{◌≡◌, ◌<◌, ℕ, IsTrue, nat_lt}
use Rattle.c960_board.specs.Cells.{has_right}
use Rattle.c960_board.proofs.conditions.rights.is_alone.Given as goal

abbrev pub invariant-loop-other : goal.invariant-loop-other
invariant-loop-other l = (g : ℕ) → g < l.other → IsTrue (has_right l.rights l.colour g) → nat_lt l.file l.king_file ≡ nat_lt g l.king_file → l.file ≡ g
