use Rattle.std.proofs.Common.{rules, refl, ◌≡◌, sym, subst}
use Rattle.relay_service.specs.Following.Calls.{delivers, wrote}
use Rattle.relay_service.specs.Following.Record.{ConnectionRecord}
use Rattle.relay_service.specs.Inner.{service_of}
use Rattle.relay_service.specs.Record.{ServiceRecord}
use Rattle.relay_service.proofs.Followers.{Keeps, wrote_keeps}
use Rattle.relay_service.proofs.Keeping.{keeps_as, kept}
use Rattle.relay_service.proofs.Serving.{IsChanged, kept_if, serves}
use Rattle.relay_service.proofs.service.Service.sent_to_follower.Goals as goal

pub invariant_of-self : goal.invariant_of-self
invariant_of-self c =
    let s : ServiceRecord = service_of c.self.inside in
    let t : ServiceRecord = record s { connections = (c.get_mut.follows.lender c.sent_to_follower.new.self).entries } in
    let changed : IsChanged s c.args.number c.in-Some.connection.now c.sent_to_follower.new.self t = record { there = search rules; follows = search rules; connections = search rules; rest = refl } in
    keeps_as _ t (kept_if s c.args.number c.in-Some.connection.now c.sent_to_follower.new.self t changed (λ f g. g ≡ delivers f (wrote f.delivery c.args.n)) (kept c.self.inside c.self.invariant)
    (λ f g is. subst (λ (x : ConnectionRecord). Keeps f.delivery x.delivery) (sym is) (wrote_keeps f.delivery c.args.n)) c.sent_to_follower.ensures) refl

pub returns : goal.returns
returns c =
    let s : ServiceRecord = service_of c.self.inside in
    let t : ServiceRecord = record s { connections = (c.get_mut.follows.lender c.sent_to_follower.new.self).entries } in
    let changed : IsChanged s c.args.number c.in-Some.connection.now c.sent_to_follower.new.self t = record { there = search rules; follows = search rules; connections = search rules; rest = refl } in
    rw (← c.self.view_is)
    (serves s c.args.number c.in-Some.connection.now c.sent_to_follower.new.self t changed (λ f g. g ≡ delivers f (wrote f.delivery c.args.n)) c.sent_to_follower.ensures)
