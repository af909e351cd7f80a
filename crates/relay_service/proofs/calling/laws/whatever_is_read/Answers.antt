use Rattle.relay_service.proofs.CallingFacts.Serving.{is_served}
use Rattle.relay_service.proofs.calling.laws.whatever_is_read.Goals as goal

pub returns : goal.returns
returns c = is_served
