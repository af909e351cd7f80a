use Rattle.std.proofs.Common.{rules, refl}
use Rattle.std.proofs.lemmas.Map.Steps.{set_value_same}
use Rattle.relay_service.specs.Calling.Answering.{pinged}
use Rattle.relay_service.specs.Calling.Running.{was_pinged}
use Rattle.relay_service.specs.Inner.{service_of}
use Rattle.relay_service.specs.Record.{ServiceRecord}
use Rattle.relay_service.proofs.Keeping.{keeps_as, kept, put_at}
use Rattle.relay_service.proofs.service.Service.ping.Goals as goal

pub invariant_of-self-in_err-ping : goal.invariant_of-self-in_err-ping
invariant_of-self-in_err-ping c = keeps_as _ _ (kept c.self.inside c.self.invariant) (search (rules, set_value_same))

pub invariant_of-self-2 : goal.invariant_of-self-2
invariant_of-self-2 c =
    let s : ServiceRecord = service_of c.self.inside in
    let t : ServiceRecord = record s { connections = (c.get_mut.follows.lender c.ping.new.self).entries; turns = c.and-self-inside.result.items } in
    keeps_as _ t (put_at was_pinged pinged (λ d some is. (is, refl)) (λ some. tt) (λ some. tt) (λ some. refl) (λ k some. refl) (λ number some. refl) s c.args.number c.in-Some.connection.now c.ping.new.self c.in_ok-ping.field-0 t
    (kept c.self.inside c.self.invariant) (search rules) (search rules) c.in_ok-ping.ensures.ok (search rules) (search rules)).0 refl

pub returns-clause-ok : goal.returns-clause-ok
returns-clause-ok c =
    let s : ServiceRecord = service_of c.self.inside in
    let t : ServiceRecord = record s { connections = (c.get_mut.follows.lender c.ping.new.self).entries; turns = c.and-self-inside.result.items } in
    rw (← c.self.view_is)
    ((put_at was_pinged pinged (λ d some is. (is, refl)) (λ some. tt) (λ some. tt) (λ some. refl) (λ k some. refl) (λ number some. refl) s c.args.number c.in-Some.connection.now c.ping.new.self c.in_ok-ping.field-0 t
    (kept c.self.inside c.self.invariant) (search rules) (search rules) c.in_ok-ping.ensures.ok (search rules) (search rules)).1 _)
