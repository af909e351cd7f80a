use Rattle.std.proofs.Common.{rules, refl}
use Rattle.relay_hall.specs.Runs.{Time}
use Rattle.relay_service.specs.Inner.{service_of}
use Rattle.relay_service.proofs.Keeping.{keeps, kept, kept_by_pass}
use Rattle.relay_service.proofs.service.Service.tick.Goals as goal

pub invariant_of-self : goal.invariant_of-self
invariant_of-self c =
    keeps _ (kept_by_pass (service_of c.self.inside) (Time c.args.millis) _ (kept c.self.inside c.self.invariant) (search rules)
    (λ w. refl) (λ w. refl) (λ count q. refl) (λ count. tt) tt)
