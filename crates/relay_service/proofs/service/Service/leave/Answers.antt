use Rattle.std.proofs.Common.{rules, refl}
use Rattle.relay_service.specs.Inner.{service_of}
use Rattle.relay_service.specs.Record.{ServiceRecord}
use Rattle.relay_service.proofs.Keeping.{keeps_as, kept, left_at}
use Rattle.relay_service.proofs.service.Service.leave.Goals as goal

pub invariant_of-self-2 : goal.invariant_of-self-2
invariant_of-self-2 c =
    let s : ServiceRecord = service_of c.self.inside in
    let t : ServiceRecord = record s { hall = c.leave-2.new.self; connections = (c.get_mut.follows.lender c.leave.new.self).entries; turns = c.and-self-inside.result.items } in
    keeps_as _ t (left_at s c.args.number c.in-Some-get_mut.connection.now c.leave.new.self c.in-Some.who t (kept c.self.inside c.self.invariant)
    (search rules) (search rules) c.leave.ensures (search rules) (search rules) (search rules)).0 refl

pub returns : goal.returns
returns c =
    let s : ServiceRecord = service_of c.self.inside in
    let t : ServiceRecord = record s { hall = c.leave-2.new.self; connections = (c.get_mut.follows.lender c.leave.new.self).entries; turns = c.and-self-inside.result.items } in
    rw (← c.self.view_is)
    (left_at s c.args.number c.in-Some-get_mut.connection.now c.leave.new.self c.in-Some.who t (kept c.self.inside c.self.invariant)
    (search rules) (search rules) c.leave.ensures (search rules) (search rules) (search rules)).1
