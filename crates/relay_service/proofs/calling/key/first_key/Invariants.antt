-- No field in front of the rest gives a key.
use Rattle.std.proofs.Common.{◌≡◌, length}
use Rattle.relay_service.specs.Calling.Keys.{fields_of, first_key}
use Rattle.relay_service.proofs.calling.key.first_key.Given as goal

abbrev pub invariant-fields : goal.invariant-fields
invariant-fields l = first_key (fields_of l.query) ≡ first_key (fields_of l.rest)

abbrev pub decreases-fields : goal.decreases-fields
decreases-fields l = length l.rest
