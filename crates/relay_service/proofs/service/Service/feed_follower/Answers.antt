use Rattle.std.proofs.Common.{rules, refl, ◌≡◌, sym, subst}
use Rattle.relay_service.specs.Following.Calls.{after_feed}
use Rattle.relay_service.specs.Following.Record.{ConnectionRecord}
use Rattle.relay_service.specs.Inner.{service_of}
use Rattle.relay_service.specs.Record.{ServiceRecord}
use Rattle.relay_service.proofs.Followers.{Keeps}
use Rattle.relay_service.proofs.Keeping.{keeps_as, kept}
use Rattle.relay_service.proofs.Serving.{IsChanged, kept_or, serves_ok}
use Rattle.relay_service.proofs.service.Service.feed_follower.Goals as goal

pub invariant_of-self : goal.invariant_of-self
invariant_of-self c =
    let s : ServiceRecord = service_of c.self.inside in
    let t : ServiceRecord = record s { connections = (c.get_mut.follows.lender c.feed_follower.new.self).entries } in
    let changed : IsChanged s c.args.number c.in-Some.connection.now c.feed_follower.new.self t = record { there = search rules; follows = search rules; connections = search rules; rest = refl } in
    keeps_as _ t (kept_or s c.args.number c.in-Some.connection.now c.feed_follower.new.self t changed c.feed_follower.result (λ f g. g ≡ after_feed f c.args.bytes.now) (kept c.self.inside c.self.invariant)
    (λ f g is. subst (λ (x : ConnectionRecord). Keeps f.delivery x.delivery) (sym is) ((λ h in_it. in_it), refl)) c.feed_follower.ensures.ok c.feed_follower.ensures.err) refl

pub returns-clause-ok : goal.returns-clause-ok
returns-clause-ok c =
    let s : ServiceRecord = service_of c.self.inside in
    let t : ServiceRecord = record s { connections = (c.get_mut.follows.lender c.feed_follower.new.self).entries } in
    let changed : IsChanged s c.args.number c.in-Some.connection.now c.feed_follower.new.self t = record { there = search rules; follows = search rules; connections = search rules; rest = refl } in
    rw (← c.self.view_is)
    (serves_ok s c.args.number c.in-Some.connection.now c.feed_follower.new.self t changed c.feed_follower.result (λ f g. g ≡ after_feed f c.args.bytes.now) c.feed_follower.ensures.ok)
