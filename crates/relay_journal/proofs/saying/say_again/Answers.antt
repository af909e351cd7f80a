use Rattle.std.proofs.lemmas.Result.{on_ok_weaker}
use Rattle.relay_journal.proofs.Leading.{said_and_accepted, said_and_refused}
use Rattle.relay_journal.proofs.saying.say_again.Goals as goal

pub returns-clause-said : goal.returns-clause-said
returns-clause-said c =
    on_ok_weaker c.accepted.result
    (said_and_accepted c.args.hall.now c.come.new.hall c.step-reply.new.self c.args.who c.args.entry.now c.key.result c.step.result c.step-reply.result.0 c.step-reply.result.1
    c.key.ensures c.step.ensures c.in_ok-come.ensures c.step-reply.ensures.made c.step-reply.ensures.rest)
    c.accepted.ensures.ok

pub returns-clause-refused : goal.returns-clause-refused
returns-clause-refused c = λ is.
    let told = c.accepted.ensures.refused is in
    said_and_refused c.args.hall.now c.come.new.hall c.step-reply.new.self c.args.who c.args.entry.now c.key.result c.step.result c.step-reply.result.0 c.step-reply.result.1
    c.key.ensures c.step.ensures c.in_ok-come.ensures c.step-reply.ensures.made c.step-reply.ensures.rest told.0 told.1 told.2
