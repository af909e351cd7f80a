-- What is left to skip is what was to be skipped, and each turn takes a token.
use Rattle.std.proofs.Common.{◌≡◌, ◌≤◌, length}
use Rattle.relay_messages.specs.Passing.{rest_passed, still_passed}
use Rattle.relay_messages.proofs.passing.pass_rest.Given as goal

abbrev pub invariant-turns : goal.invariant-turns
invariant-turns l = record {
  read : rest_passed l.fn.nest l.depth l.initial.reader ≡ still_passed l.depth l.open.outer.items l.open.innermost l.reader;
  within : length l.open.outer.items ≤ l.depth;
}

abbrev pub decreases-turns : goal.decreases-turns
decreases-turns l = length l.reader
