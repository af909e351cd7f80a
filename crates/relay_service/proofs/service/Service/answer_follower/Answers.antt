use Rattle.std.proofs.Common.{rules, refl}
use Rattle.relay_service.specs.Following.Calls.{Answers, Fails}
use Rattle.relay_service.specs.Inner.{service_of}
use Rattle.relay_service.specs.Record.{ServiceRecord}
use Rattle.relay_service.proofs.Followers.{answers_keeps, fails_keeps}
use Rattle.relay_service.proofs.Keeping.{keeps_as, kept}
use Rattle.relay_service.proofs.Serving.{IsChanged, kept_either, serves_err, serves_some}
use Rattle.relay_service.proofs.service.Service.answer_follower.Goals as goal

pub invariant_of-self : goal.invariant_of-self
invariant_of-self c =
    let s : ServiceRecord = service_of c.self.inside in
    let t : ServiceRecord = record s { connections = (c.get_mut.follows.lender c.answer_follower.new.self).entries } in
    let changed : IsChanged s c.args.number c.in-Some.connection.now c.answer_follower.new.self t = record { there = search rules; follows = search rules; connections = search rules; rest = refl } in
    keeps_as _ t (kept_either s c.args.number c.in-Some.connection.now c.answer_follower.new.self t changed c.answer_follower.result Answers Fails (kept c.self.inside c.self.invariant)
    answers_keeps fails_keeps c.answer_follower.ensures.ok c.answer_follower.ensures.err) refl

pub returns-clause-ok : goal.returns-clause-ok
returns-clause-ok c =
    let s : ServiceRecord = service_of c.self.inside in
    let t : ServiceRecord = record s { connections = (c.get_mut.follows.lender c.answer_follower.new.self).entries } in
    let changed : IsChanged s c.args.number c.in-Some.connection.now c.answer_follower.new.self t = record { there = search rules; follows = search rules; connections = search rules; rest = refl } in
    rw (← c.self.view_is)
    (serves_some s c.args.number c.in-Some.connection.now c.answer_follower.new.self t changed c.answer_follower.result Answers c.answer_follower.ensures.ok)

pub returns-clause-err : goal.returns-clause-err
returns-clause-err c =
    let s : ServiceRecord = service_of c.self.inside in
    let t : ServiceRecord = record s { connections = (c.get_mut.follows.lender c.answer_follower.new.self).entries } in
    let changed : IsChanged s c.args.number c.in-Some.connection.now c.answer_follower.new.self t = record { there = search rules; follows = search rules; connections = search rules; rest = refl } in
    rw (← c.self.view_is)
    (serves_err s c.args.number c.in-Some.connection.now c.answer_follower.new.self t changed c.answer_follower.result Fails c.answer_follower.ensures.err)
