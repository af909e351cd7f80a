use Rattle.relay_durable.proofs.Events.{answered}
use Rattle.relay_durable.proofs.Keeping.{kept_behind}
use Rattle.relay_durable.proofs.durable_service.DurableService.answer.Goals as goal

pub invariant_of-self : goal.invariant_of-self
invariant_of-self g c =
    kept_behind g.S.StableStorage.contents g.S.StableStorage.synced c.self.inside.scribe c.note.new.scribe c.self.inside.service.hall c.hall.result.now c.answer-answered.new.self.hall
    c.hall.ensures.hall (answered c.one_step_at_most.ensures.answered c.one_step_at_most.ensures.failed c.self.inside.service c.args.number c.answer-answered.result
    c.answer-answered.new.self c.answer-answered.ensures.ok c.answer-answered.ensures.err) c.note.ensures.kept c.self.invariant
