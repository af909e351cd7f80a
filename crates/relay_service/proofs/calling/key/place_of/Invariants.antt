-- None of those looked at so far has the value.
use Rattle.std.proofs.Common.{◌≡◌, ◌==◌, ◌+◌, drop}
use Rattle.std.specs.List.{position_or_len}
use Rattle.relay_service.proofs.calling.key.place_of.Given as goal

abbrev pub invariant-loop-at : goal.invariant-loop-at
invariant-loop-at l = position_or_len (λ x. x == l.byte) l.bytes ≡ l.at + position_or_len (λ x. x == l.byte) (drop l.at l.bytes)
