use Rattle.std.proofs.Common.{rules, refl, ◌≡◌, sym, subst}
use Rattle.relay_service.specs.Following.Calls.{pinged}
use Rattle.relay_service.specs.Following.Record.{ConnectionRecord}
use Rattle.relay_service.specs.Inner.{service_of}
use Rattle.relay_service.specs.Record.{ServiceRecord}
use Rattle.relay_service.proofs.Followers.{Keeps, pinged_keeps}
use Rattle.relay_service.proofs.Keeping.{keeps_as, kept}
use Rattle.relay_service.proofs.Serving.{IsChanged, kept_or, serves_ok}
use Rattle.relay_service.proofs.service.Service.ping_follower.Goals as goal

pub invariant_of-self : goal.invariant_of-self
invariant_of-self c =
    let s : ServiceRecord = service_of c.self.inside in
    let t : ServiceRecord = record s { connections = (c.get_mut.follows.lender c.ping_follower.new.self).entries } in
    let changed : IsChanged s c.args.number c.in-Some.connection.now c.ping_follower.new.self t = record { there = search rules; follows = search rules; connections = search rules; rest = refl } in
    keeps_as _ t (kept_or s c.args.number c.in-Some.connection.now c.ping_follower.new.self t changed c.ping_follower.result (λ f g. g ≡ pinged f) (kept c.self.inside c.self.invariant)
    (λ f g is. subst (λ (x : ConnectionRecord). Keeps f.delivery x.delivery) (sym is) (pinged_keeps f)) c.ping_follower.ensures.ok c.ping_follower.ensures.err) refl

pub returns-clause-ok : goal.returns-clause-ok
returns-clause-ok c =
    let s : ServiceRecord = service_of c.self.inside in
    let t : ServiceRecord = record s { connections = (c.get_mut.follows.lender c.ping_follower.new.self).entries } in
    let changed : IsChanged s c.args.number c.in-Some.connection.now c.ping_follower.new.self t = record { there = search rules; follows = search rules; connections = search rules; rest = refl } in
    rw (← c.self.view_is)
    (serves_ok s c.args.number c.in-Some.connection.now c.ping_follower.new.self t changed c.ping_follower.result (λ f g. g ≡ pinged f) c.ping_follower.ensures.ok)
