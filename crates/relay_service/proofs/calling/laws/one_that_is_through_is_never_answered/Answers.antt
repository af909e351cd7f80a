use Rattle.relay_service.proofs.CallingFacts.Sending.{never_answered}
use Rattle.relay_service.proofs.calling.laws.one_that_is_through_is_never_answered.Goals as goal

pub returns : goal.returns
returns c = never_answered
