use Rattle.relay_frames.specs.Events.{told}
use Rattle.relay_service.proofs.CallingFacts.Answering.{ok_of, onto_err, onto_ok, said_farewell, said_no_farewell}
use Rattle.relay_service.proofs.calling.operator_connection.OperatorConnection.answer_in_full.Goals as goal

pub returns-in-Ok-clause-ok : goal.returns-in-Ok-clause-ok
returns-in-Ok-clause-ok c =
    let a = c.answer_event-answered in
    onto_ok (said_farewell c.args.self.now c.args.hall.now a.result.1 a.new.hall (told c.args.event.now) a.new.self c.say_farewell.new.self c.is_some.result c.is_some.ensures
    (ok_of a.result.0 c.in-Ok.field-0 c.in-Ok.is a.ensures.ok)) c.say_farewell.result c.say_farewell.ensures.ok

pub returns-in-Ok-clause-err : goal.returns-in-Ok-clause-err
returns-in-Ok-clause-err c =
    let a = c.answer_event-answered in
    onto_err (said_no_farewell c.args.self.now c.args.hall.now a.result.1 a.new.hall (told c.args.event.now) a.new.self c.say_farewell.new.self
    (ok_of a.result.0 c.in-Ok.field-0 c.in-Ok.is a.ensures.ok)) c.say_farewell.result c.say_farewell.ensures.err
