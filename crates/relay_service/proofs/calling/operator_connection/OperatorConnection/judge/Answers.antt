use Rattle.std.proofs.Common.{take, ap, ◌∙◌}
use Rattle.relay_service.specs.Calling.Answering.{OperatorRecord}
use Rattle.relay_service.proofs.CallingFacts.Answering.{onto_ok}
use Rattle.relay_service.proofs.CallingFacts.Arriving.{is_accepted, is_refused}
use Rattle.relay_service.proofs.calling.operator_connection.OperatorConnection.judge.Goals as goal

pub returns-in-Ok-clause-ok : goal.returns-in-Ok-clause-ok
returns-in-Ok-clause-ok c =
    onto_ok (is_accepted c.args.self.now c.args.end (take c.args.end c.deref.result.now) c.welcome.new.self
    (ap (take c.args.end) (c.deref.ensures.value ∙ ap (λ (r : OperatorRecord). r.head) c.self.view_is)) c.in-Ok.acceptance.value c.in-Ok.ensures.let_in c.in-Ok.ensures.accepted) c.welcome.result c.welcome.ensures.ok

pub returns-in-Err-clause-ok : goal.returns-in-Err-clause-ok
returns-in-Err-clause-ok c =
    onto_ok (is_refused c.args.self.now c.args.end (take c.args.end c.deref.result.now) c.turn_away.new.self
    (ap (take c.args.end) (c.deref.ensures.value ∙ ap (λ (r : OperatorRecord). r.head) c.self.view_is)) c.in-Err.refusal c.in-Err.ensures.refused) c.turn_away.result c.turn_away.ensures.ok
