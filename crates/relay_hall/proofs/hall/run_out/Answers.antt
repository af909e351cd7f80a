use Rattle.std.proofs.Common.{sym}
use Rattle.relay_hall.proofs.Expiring.{none_waited}
use Rattle.relay_hall.proofs.Sweeps.{none_swept}
use Rattle.relay_hall.proofs.hall.run_out.Goals as goal

pub returns-then-not-has_due-clause-floor : goal.returns-then-not-has_due-clause-floor
returns-then-not-has_due-clause-floor c =
    let none = c.has_due.ensures c.if-not-has_due.true in
    sym (none_swept c.args.floor.now.floor _ (λ o. none_waited c.args.now c.args.holders.now.rows.items none o.key))
