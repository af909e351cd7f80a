use Rattle.std.proofs.Common.{rules}
use Rattle.relay_service.specs.Calling.OperatorInner.{operator_of}
use Rattle.relay_service.proofs.CallingFacts.Answering.{event_answered, event_fails, none_answered, onto_each, onto_err}
use Rattle.relay_service.proofs.calling.operator_connection.OperatorConnection.answer.Goals as goal

pub returns-in-Ok-Some-clause-ok : goal.returns-in-Ok-Some-clause-ok
returns-in-Ok-Some-clause-ok c =
    let mine = operator_of c.self.inside in
    let next = c.in-Ok-Some in
    rw (← c.self.view_is)
    (onto_each (event_answered mine c.args.hall.now c.take_in.result.1 _ next.event next.field-0 c.next.new.self c.take_in.new.self
    (search rules) next.ensures.told next.field-0-is next.ensures.then) c.take_in.result.0 c.take_in.ensures.ok)

pub returns-in-Ok-Some-clause-err : goal.returns-in-Ok-Some-clause-err
returns-in-Ok-Some-clause-err c =
    let mine = operator_of c.self.inside in
    let next = c.in-Ok-Some in
    rw (← c.self.view_is)
    (onto_err (event_fails mine c.args.hall.now c.take_in.result.1 _ next.event next.field-0 c.next.new.self c.take_in.new.self
    (search rules) next.ensures.told next.field-0-is next.ensures.then) c.take_in.result.0 c.take_in.ensures.err)

pub returns-in-Ok-None-clause-ok : goal.returns-in-Ok-None-clause-ok
returns-in-Ok-None-clause-ok c =
    let mine = operator_of c.self.inside in
    let next = c.in-Ok-None in
    rw (← c.self.view_is)
    (none_answered mine c.args.hall.now next.field-0 c.next.new.self next.ensures.told next.field-0-is next.ensures.then)
