use Rattle.relay_service.proofs.CallingFacts.Connections.{are_one_run}
use Rattle.relay_service.proofs.calling.laws.all_are_one_run.Goals as goal

pub returns : goal.returns
returns c = are_one_run
