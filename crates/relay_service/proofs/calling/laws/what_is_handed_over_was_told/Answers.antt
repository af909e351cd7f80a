use Rattle.relay_service.proofs.CallingFacts.Handing.{answered_tells}
use Rattle.relay_service.proofs.calling.laws.what_is_handed_over_was_told.Goals as goal

pub returns : goal.returns
returns c = answered_tells
