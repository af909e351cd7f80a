use Rattle.relay_hall.specs.Runs.{Time}
use Rattle.relay_durable.proofs.Events.{passed}
use Rattle.relay_durable.proofs.Keeping.{kept_behind}
use Rattle.relay_durable.proofs.durable_service.DurableService.tick.Goals as goal

pub invariant_of-self : goal.invariant_of-self
invariant_of-self g c =
    kept_behind g.S.StableStorage.contents g.S.StableStorage.synced c.self.inside.scribe c.note.new.scribe c.self.inside.service.hall c.hall.result.now c.tick.new.self.hall
    c.hall.ensures.hall (passed c.self.inside.service (Time c.args.millis) c.tick.new.self c.tick.ensures) c.note.ensures.kept c.self.invariant
