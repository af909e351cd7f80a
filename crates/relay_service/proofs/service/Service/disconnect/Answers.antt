use Rattle.std.proofs.Common.{rules, refl}
use Rattle.relay_service.specs.Inner.{service_of}
use Rattle.relay_service.specs.Record.{ServiceRecord}
use Rattle.relay_service.proofs.Keeping.{disconnected_at, keeps_as, kept, kept_without}
use Rattle.relay_service.proofs.service.Service.disconnect.Goals as goal

pub invariant_of-self : goal.invariant_of-self
invariant_of-self c =
    keeps_as _ _ (kept_without (service_of c.self.inside) c.args.number c.swap_remove.new.self.entries (kept c.self.inside c.self.invariant) (search rules)) refl

pub invariant_of-self-2 : goal.invariant_of-self-2
invariant_of-self-2 c =
    let s : ServiceRecord = service_of c.self.inside in
    let t : ServiceRecord = record s { hall = c.leave.new.self; connections = c.swap_remove.new.self.entries; turns = c.and-self-inside.result.items } in
    keeps_as _ t (disconnected_at s c.args.number c.in-Some.who t (kept c.self.inside c.self.invariant)
    (record { there = search rules; step = search rules; connections = search rules; rest = search rules })) refl
