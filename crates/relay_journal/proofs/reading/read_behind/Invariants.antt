use Rattle.std.proofs.Common.{◌≡◌, ℕ, List, ◌++◌, length}
use Rattle.chained_lines.specs.Lines.{Line, read_lines}
use Rattle.relay_journal.specs.declared.entry.Entry.{Entry}
use Rattle.relay_journal.specs.Bodies.{AllBodies}
use Rattle.relay_journal.proofs.reading.read_behind.Given as goal

-- these lines were read, and these are their entries
pub record HasRead (before bytes rest seal : List ℕ) (entries : List Entry) : Type 0 where
  pub done : List Line
  pub read : read_lines before bytes ≡ done ++ read_lines seal rest
  pub say : AllBodies done entries

abbrev pub invariant-loop-found : goal.invariant-loop-found
invariant-loop-found l = HasRead l.before l.bytes l.rest l.seal l.entries.items

abbrev pub decreases-loop-found : goal.decreases-loop-found
decreases-loop-found l = length l.rest
