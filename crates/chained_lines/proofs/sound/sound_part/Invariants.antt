use Rattle.std.proofs.Common.{◌≡◌, ℕ, ◌+◌, ◌≤◌, List, ◌++◌, length}
use Rattle.chained_lines.specs.Lines.{Line, file_of, last_seal, no_seal, read_lines}
use Rattle.chained_lines.proofs.sound.sound_part.Given as goal

-- these lines were read, and the rest stands behind them
pub record HasRead (bytes rest seal : List ℕ) (count : ℕ) : Type 0 where
  pub done : List Line
  pub front : bytes ≡ file_of no_seal done ++ rest
  pub read : read_lines no_seal bytes ≡ done ++ read_lines seal rest
  pub lines : count ≡ length done
  pub sealed : seal ≡ last_seal no_seal done
  pub few : count + length rest ≤ length bytes

abbrev pub invariant-loop-found : goal.invariant-loop-found
invariant-loop-found l = HasRead l.bytes l.rest l.seal l.lines

abbrev pub decreases-loop-found : goal.decreases-loop-found
decreases-loop-found l = length l.rest
