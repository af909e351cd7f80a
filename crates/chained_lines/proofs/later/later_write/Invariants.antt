use Rattle.std.proofs.Common.{◌≡◌, ℕ, ◌+◌, ◌-◌, ◌≤◌, List, length}
use Rattle.chained_lines.specs.Later.{later_write, searching}
use Rattle.chained_lines.proofs.later.later_write.Given as goal

-- nothing was found before this line
pub record HasPassed (bytes rest : List ℕ) (line : ℕ) : Type 0 where
  pub goes_on : later_write bytes ≡ searching line (length bytes - length rest) rest
  pub few : line + length rest ≤ length bytes

abbrev pub invariant-loop-behind : goal.invariant-loop-behind
invariant-loop-behind l = HasPassed l.bytes l.rest l.line

abbrev pub decreases-loop-behind : goal.decreases-loop-behind
decreases-loop-behind l = length l.rest
