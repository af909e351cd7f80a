use Rattle.std.proofs.Common.{rules}
use Rattle.relay_service.proofs.Keeping.{keeps_as}
use Rattle.relay_service.proofs.Resuming.{kept_resumed}
use Rattle.relay_service.proofs.service.Service.resume.Goals as goal

pub invariant_of-result : goal.invariant_of-result
invariant_of-result c =
    keeps_as _ _ (kept_resumed c.args.limits.now c.args.grace c.args.next c.args.takes_keys c.args.hall c.of_restart-turns.result.items c.of_restart-turns.ensures) (search rules)
