use Rattle.relay_durable.proofs.Events.{leaves}
use Rattle.relay_durable.proofs.Keeping.{kept_behind}
use Rattle.relay_durable.proofs.durable_service.DurableService.leave.Goals as goal

pub invariant_of-self : goal.invariant_of-self
invariant_of-self g c =
    kept_behind g.S.StableStorage.contents g.S.StableStorage.synced c.self.inside.scribe c.note.new.scribe c.self.inside.service.hall c.hall.result.now c.leave.new.self.hall
    c.hall.ensures.hall (leaves c.self.inside.service c.args.number c.leave.new.self c.leave.ensures) c.note.ensures.kept c.self.invariant
