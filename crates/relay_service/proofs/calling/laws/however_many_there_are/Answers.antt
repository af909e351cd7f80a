use Rattle.relay_service.proofs.CallingFacts.Connections.{each_is_served}
use Rattle.relay_service.proofs.calling.laws.however_many_there_are.Goals as goal

pub returns : goal.returns
returns c = each_is_served
