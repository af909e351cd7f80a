use Rattle.std.proofs.Common.{rules}
use Rattle.relay_live.proofs.holdings.Holdings.new.Goals as goal

pub invariant_of-result : goal.invariant_of-result
invariant_of-result c = rw (c.new.ensures) (search rules)
