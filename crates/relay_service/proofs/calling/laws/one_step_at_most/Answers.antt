use Rattle.relay_service.proofs.CallingFacts.Stepping.{answers_once, fails_once}
use Rattle.relay_service.proofs.calling.laws.one_step_at_most.Goals as goal

pub returns-clause-answered : goal.returns-clause-answered
returns-clause-answered c = answers_once

pub returns-clause-failed : goal.returns-clause-failed
returns-clause-failed c = fails_once
