use Rattle.std.proofs.Common.{rules, refl}
use Rattle.std.proofs.lemmas.Map.Steps.{set_value_same}
use Rattle.relay_service.specs.Calling.Answering.{sent_away}
use Rattle.relay_service.specs.Calling.Running.{was_sent_away}
use Rattle.relay_service.specs.Inner.{service_of}
use Rattle.relay_service.specs.Record.{ServiceRecord}
use Rattle.relay_service.proofs.Keeping.{keeps_as, kept, put_at}
use Rattle.relay_service.proofs.service.Service.close.Goals as goal

pub invariant_of-self-in_err-close : goal.invariant_of-self-in_err-close
invariant_of-self-in_err-close c = keeps_as _ _ (kept c.self.inside c.self.invariant) (search (rules, set_value_same))

pub invariant_of-self-2 : goal.invariant_of-self-2
invariant_of-self-2 c =
    let s : ServiceRecord = service_of c.self.inside in
    let t : ServiceRecord = record s { connections = (c.get_mut.follows.lender c.close.new.self).entries; turns = c.and-self-inside.result.items } in
    keeps_as _ t (put_at (λ some. was_sent_away some c.args.code.number) (λ d. sent_away d c.args.code.number) (λ d some is. (is, refl)) (λ some. tt) (λ some. tt) (λ some. refl) (λ k some. refl) (λ number some. refl) s c.args.number c.in-Some.connection.now c.close.new.self c.in_ok-close.field-0 t
    (kept c.self.inside c.self.invariant) (search rules) (search rules) c.in_ok-close.ensures.ok (search rules) (search rules)).0 refl

pub returns-clause-ok : goal.returns-clause-ok
returns-clause-ok c =
    let s : ServiceRecord = service_of c.self.inside in
    let t : ServiceRecord = record s { connections = (c.get_mut.follows.lender c.close.new.self).entries; turns = c.and-self-inside.result.items } in
    rw (← c.self.view_is)
    ((put_at (λ some. was_sent_away some c.args.code.number) (λ d. sent_away d c.args.code.number) (λ d some is. (is, refl)) (λ some. tt) (λ some. tt) (λ some. refl) (λ k some. refl) (λ number some. refl) s c.args.number c.in-Some.connection.now c.close.new.self c.in_ok-close.field-0 t
    (kept c.self.inside c.self.invariant) (search rules) (search rules) c.in_ok-close.ensures.ok (search rules) (search rules)).1 _)
