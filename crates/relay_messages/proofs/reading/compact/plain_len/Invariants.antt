use Rattle.std.proofs.Common.{ℕ, ◌-◌, ◌<◌, ◌≤◌, get_or, length}
use Rattle.relay_messages.specs.Compact.{IsPlainByte}
use Rattle.relay_messages.proofs.reading.compact.plain_len.Given as goal

abbrev pub invariant-bytes : goal.invariant-bytes
invariant-bytes l = record {
  within : l.len ≤ length l.bytes;
  plain : (k : ℕ) → k < l.len → IsPlainByte (get_or l.bytes k 0);
}

abbrev pub decreases-bytes : goal.decreases-bytes
decreases-bytes l = length l.bytes - l.len
