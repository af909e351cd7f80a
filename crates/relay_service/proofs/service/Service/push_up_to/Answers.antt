use Rattle.std.proofs.Common.{rules, ap, refl}
use Rattle.relay_hall.specs.Record.{HallRecord}
use Rattle.relay_service.specs.Following.Record.{follows}
use Rattle.relay_service.specs.Calls.{PushFailsTo, PushesTo}
use Rattle.relay_service.specs.Inner.{service_of}
use Rattle.relay_service.specs.Record.{ServiceRecord}
use Rattle.relay_service.proofs.Keeping.{keeps_as, kept}
use Rattle.relay_service.proofs.Serving.{IsChanged, kept_pushed, pushed_err, pushed_ok, serves_err, serves_some}
use Rattle.relay_service.proofs.service.Service.push_up_to.Goals as goal

pub push-requires : goal.push-requires
push-requires c = c.self.invariant.joined c.args.number c.in-Some.connection.now (search rules)

pub invariant_of-self : goal.invariant_of-self
invariant_of-self c =
    let s : ServiceRecord = service_of c.self.inside in
    let t : ServiceRecord = record s { connections = (c.get_mut.follows.lender c.push.new.self).entries } in
    let changed : IsChanged s c.args.number c.in-Some.connection.now c.push.new.self t = record { there = search rules; follows = search rules; connections = search rules; rest = refl } in
    keeps_as _ t (kept_pushed s c.args.number c.in-Some.connection.now c.push.new.self t changed c.push.result c.args.most s.is_ending (kept c.self.inside c.self.invariant)
    c.push.ensures.joined c.push.ensures.ok c.push.ensures.err) (ap (λ (k : HallRecord). record t { hall = k }) c.push.ensures.hall)

pub returns-clause-ok : goal.returns-clause-ok
returns-clause-ok c =
    let s : ServiceRecord = service_of c.self.inside in
    let t : ServiceRecord = record s { connections = (c.get_mut.follows.lender c.push.new.self).entries } in
    let changed : IsChanged s c.args.number c.in-Some.connection.now c.push.new.self t = record { there = search rules; follows = search rules; connections = search rules; rest = refl } in
    rw (← c.self.view_is, c.push.ensures.hall)
    (pushed_ok s c.args.number c.args.most t c.push.result (search rules)
    (serves_some s c.args.number c.in-Some.connection.now c.push.new.self t changed c.push.result (λ more f g. PushesTo (follows f.delivery.stage) s.hall.floor c.args.most s.is_ending more f g) c.push.ensures.ok))

pub returns-clause-err : goal.returns-clause-err
returns-clause-err c =
    let s : ServiceRecord = service_of c.self.inside in
    let t : ServiceRecord = record s { connections = (c.get_mut.follows.lender c.push.new.self).entries } in
    let changed : IsChanged s c.args.number c.in-Some.connection.now c.push.new.self t = record { there = search rules; follows = search rules; connections = search rules; rest = refl } in
    rw (← c.self.view_is, c.push.ensures.hall)
    (pushed_err s c.args.number c.args.most t c.push.result (search rules)
    (serves_err s c.args.number c.in-Some.connection.now c.push.new.self t changed c.push.result (PushFailsTo c.args.most) c.push.ensures.err))
