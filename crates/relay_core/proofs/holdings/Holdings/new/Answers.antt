use Rattle.std.proofs.Common.{rules}
use Rattle.relay_core.proofs.lemmas.Standing.{fresh}
use Rattle.relay_core.proofs.holdings.Holdings.new.Goals as goal

pub invariant_of-result : goal.invariant_of-result
invariant_of-result c = (fresh c.args.limits _ _ (search rules) (search rules), search rules)
