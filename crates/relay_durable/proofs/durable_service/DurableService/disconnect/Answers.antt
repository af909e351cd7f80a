use Rattle.relay_durable.proofs.Events.{disconnects}
use Rattle.relay_durable.proofs.Keeping.{kept_behind}
use Rattle.relay_durable.proofs.durable_service.DurableService.disconnect.Goals as goal

pub invariant_of-self : goal.invariant_of-self
invariant_of-self g c =
    kept_behind g.S.StableStorage.contents g.S.StableStorage.synced c.self.inside.scribe c.note.new.scribe c.self.inside.service.hall c.hall.result.now c.disconnect.new.self.hall
    c.hall.ensures.hall (disconnects c.self.inside.service c.args.number c.disconnect.new.self c.disconnect.ensures) c.note.ensures.kept c.self.invariant
