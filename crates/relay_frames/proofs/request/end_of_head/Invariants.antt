-- No empty line begins among the bytes that were looked at.
use Rattle.std.proofs.Common.{◌≡◌, ◌-◌, take}
use Rattle.relay_frames.specs.declared.request.TheConstants.{MOST_HEAD_BYTES}
use Rattle.relay_frames.specs.Heads.{blank_end_behind, head_end_behind}
use Rattle.relay_frames.proofs.request.end_of_head.Given as goal

abbrev pub invariant-loop-at : goal.invariant-loop-at
invariant-loop-at l = head_end_behind l.seen l.bytes ≡ blank_end_behind (l.at - 3) (take MOST_HEAD_BYTES l.bytes)
