use Rattle.std.proofs.Common.{string_bytes}
use Rattle.relay_service.specs.Calling.OperatorInner.{operator_of}
use Rattle.relay_service.proofs.CallingFacts.Answering.{each_of, onto_err, onto_ok, text_answers, text_fails}
use Rattle.relay_service.proofs.calling.operator_connection.OperatorConnection.reply.Goals as goal

pub returns-in-Ok-clause-ok : goal.returns-in-Ok-clause-ok
returns-in-Ok-clause-ok c =
    let mine = operator_of c.self.inside in
    let h = c.hear-heard in
    rw (← c.self.view_is)
    (onto_ok (text_answers mine c.args.hall.now h.result.1 h.new.self c.args.text.now c.as_str.result.now h.new.conn c.put_text.new.self h.ensures.rest
    (rw (c.as_str.ensures.value, ← c.as_bytes.ensures.value) (each_of _ h.result.0 c.in-Ok.answer c.in-Ok.is h.ensures.ok))) c.put_text.result c.put_text.ensures.ok)

pub returns-in-Ok-clause-err : goal.returns-in-Ok-clause-err
returns-in-Ok-clause-err c =
    let mine = operator_of c.self.inside in
    let h = c.hear-heard in
    rw (← c.self.view_is)
    (onto_err (text_fails mine c.args.hall.now h.result.1 h.new.self c.args.text.now (string_bytes c.in-Ok.answer) h.new.conn c.put_text.new.self h.ensures.rest
    (rw (← c.as_bytes.ensures.value) (each_of _ h.result.0 c.in-Ok.answer c.in-Ok.is h.ensures.ok))) c.put_text.result c.put_text.ensures.err)
