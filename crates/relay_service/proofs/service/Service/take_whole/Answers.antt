use Rattle.std.proofs.Common.{rules}
use Rattle.std.proofs.lemmas.Map.Steps.{set_value_same}
use Rattle.relay_service.proofs.Keeping.{keeps_as, kept}
use Rattle.relay_service.proofs.service.Service.take_whole.Goals as goal

pub invariant_of-self-2 : goal.invariant_of-self-2
invariant_of-self-2 c = keeps_as _ _ (kept c.self.inside c.self.invariant) (search (rules, set_value_same))
