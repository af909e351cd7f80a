use Rattle.std.proofs.Common.{◌≡◌, ◌≤◌, length}
use Rattle.relay960.specs.JournalEnds.{trimmed}
use Rattle.relay960.proofs.journal.end.len_without_zeros.Given as goal

abbrev pub invariant-loop-len : goal.invariant-loop-len
invariant-loop-len l = (l.len ≤ length l.bytes) × (trimmed l.bytes (length l.bytes) ≡ trimmed l.bytes l.len)

abbrev pub decreases-loop-len : goal.decreases-loop-len
decreases-loop-len l = l.len
