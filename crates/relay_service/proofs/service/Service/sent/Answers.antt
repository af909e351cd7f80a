use Rattle.std.proofs.Common.{rules, refl}
use Rattle.relay_service.specs.Inner.{service_of}
use Rattle.relay_service.specs.Record.{ServiceRecord}
use Rattle.relay_service.proofs.Keeping.{keeps_as, kept, sent_at}
use Rattle.relay_service.proofs.service.Service.sent.Goals as goal

pub invariant_of-self-2 : goal.invariant_of-self-2
invariant_of-self-2 c =
    let s : ServiceRecord = service_of c.self.inside in
    let t : ServiceRecord = record s { connections = (c.get_mut.follows.lender c.sent.new.self).entries; turns = c.and-self-inside.result.items } in
    keeps_as _ t (sent_at s c.args.number c.args.n c.in-Some.connection.now c.sent.new.self c.sent.result.items t (kept c.self.inside c.self.invariant)
    (search rules) (search rules) c.sent.ensures (search rules) (search rules)).0 refl

pub returns : goal.returns
returns c =
    let s : ServiceRecord = service_of c.self.inside in
    let t : ServiceRecord = record s { connections = (c.get_mut.follows.lender c.sent.new.self).entries; turns = c.and-self-inside.result.items } in
    rw (← c.self.view_is)
    (sent_at s c.args.number c.args.n c.in-Some.connection.now c.sent.new.self c.sent.result.items t (kept c.self.inside c.self.invariant)
    (search rules) (search rules) c.sent.ensures (search rules) (search rules)).1
