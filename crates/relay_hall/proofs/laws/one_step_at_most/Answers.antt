use Rattle.relay_hall.proofs.lemmas.OneStep.{answered_once, replied_once, unanswered_once}
use Rattle.relay_hall.proofs.laws.one_step_at_most.Goals as goal

pub returns-clause-replied : goal.returns-clause-replied
returns-clause-replied c = λ k l speaker opened step reply handed now r rest. replied_once k l rest speaker opened handed now step reply r

pub returns-clause-answered : goal.returns-clause-answered
returns-clause-answered c = λ k l speaker opened text bytes handed now a rest. answered_once k l rest speaker opened handed now text bytes a

pub returns-clause-unanswered : goal.returns-clause-unanswered
returns-clause-unanswered c = λ k l speaker opened text handed now a rest. unanswered_once k l rest speaker opened handed now text a
