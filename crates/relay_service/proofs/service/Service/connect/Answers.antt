use Rattle.std.proofs.Common.{rules}
use Rattle.relay_service.specs.Inner.{service_of}
use Rattle.relay_service.proofs.Keeping.{keeps_as, kept, kept_by_newcomer}
use Rattle.relay_service.proofs.service.Service.connect.Goals as goal

pub invariant_of-self : goal.invariant_of-self
invariant_of-self c = keeps_as _ _ (kept c.self.inside c.self.invariant) (search rules)

pub invariant_of-self-2 : goal.invariant_of-self-2
invariant_of-self-2 c =
    keeps_as _ _ (kept_by_newcomer (service_of c.self.inside) c.insert.new.self.entries (kept c.self.inside c.self.invariant) (search rules)) (search rules)
