use Rattle.std.proofs.Common.{rules, refl}
use Rattle.relay_service.specs.declared.turn.Moments.{Moments}
use Rattle.relay_service.specs.Inner.{service_of}
use Rattle.relay_service.specs.Record.{ServiceRecord}
use Rattle.relay_service.proofs.Doing.{same_moment}
use Rattle.relay_service.proofs.Keeping.{answered_by, keeps_as, kept}
use Rattle.relay_service.proofs.service.Service.answer.Goals as goal

pub invariant_of-self-2 : goal.invariant_of-self-2
invariant_of-self-2 c =
    let s : ServiceRecord = service_of c.self.inside in
    let m : Moments = record { before = c.of-before.result; handed = c.answer-answered.result.1; after = c.of.result } in
    let t : ServiceRecord = record s { hall = c.answer-answered.new.hall; connections = (c.get_mut.follows.lender c.answer-answered.new.self).entries; turns = c.and-self-inside.result.items } in
    keeps_as _ t (answered_by s c.args.number c.in-Some.connection.now c.answer-answered.new.self c.answer-answered.result.0 c.deed_of-deed.result m c.answer-answered.result.1.value t (kept c.self.inside c.self.invariant)
    (search rules) (search rules) (same_moment _ _ c.of-before.ensures refl c.of.ensures)
    c.answer-answered.ensures.ok c.answer-answered.ensures.err c.deed_of-deed.ensures.ok c.deed_of-deed.ensures.err (search rules) (search rules)).0 refl

pub returns-clause-ok : goal.returns-clause-ok
returns-clause-ok c =
    let s : ServiceRecord = service_of c.self.inside in
    let m : Moments = record { before = c.of-before.result; handed = c.answer-answered.result.1; after = c.of.result } in
    let t : ServiceRecord = record s { hall = c.answer-answered.new.hall; connections = (c.get_mut.follows.lender c.answer-answered.new.self).entries; turns = c.and-self-inside.result.items } in
    rw (← c.self.view_is)
    (answered_by s c.args.number c.in-Some.connection.now c.answer-answered.new.self c.answer-answered.result.0 c.deed_of-deed.result m c.answer-answered.result.1.value t (kept c.self.inside c.self.invariant)
    (search rules) (search rules) (same_moment _ _ c.of-before.ensures refl c.of.ensures)
    c.answer-answered.ensures.ok c.answer-answered.ensures.err c.deed_of-deed.ensures.ok c.deed_of-deed.ensures.err (search rules) (search rules)).1

pub returns-clause-err : goal.returns-clause-err
returns-clause-err c =
    let s : ServiceRecord = service_of c.self.inside in
    let m : Moments = record { before = c.of-before.result; handed = c.answer-answered.result.1; after = c.of.result } in
    let t : ServiceRecord = record s { hall = c.answer-answered.new.hall; connections = (c.get_mut.follows.lender c.answer-answered.new.self).entries; turns = c.and-self-inside.result.items } in
    rw (← c.self.view_is)
    (answered_by s c.args.number c.in-Some.connection.now c.answer-answered.new.self c.answer-answered.result.0 c.deed_of-deed.result m c.answer-answered.result.1.value t (kept c.self.inside c.self.invariant)
    (search rules) (search rules) (same_moment _ _ c.of-before.ensures refl c.of.ensures)
    c.answer-answered.ensures.ok c.answer-answered.ensures.err c.deed_of-deed.ensures.ok c.deed_of-deed.ensures.err (search rules) (search rules)).2
