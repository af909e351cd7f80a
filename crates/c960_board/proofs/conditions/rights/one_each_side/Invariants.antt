use Rattle.std.proofs.Common.{◌≡◌, ◌<◌, ℕ, IsTrue, nat_lt}
use Rattle.c960_board.specs.Cells.{has_right}
use Rattle.c960_board.proofs.conditions.rights.one_each_side.Given as goal

abbrev pub invariant-loop-file : goal.invariant-loop-file
invariant-loop-file l = (f g : ℕ) → f < l.file → g < 8 → IsTrue (has_right l.rights l.colour f) → IsTrue (has_right l.rights l.colour g)
    → nat_lt f l.king_file ≡ nat_lt g l.king_file → f ≡ g
