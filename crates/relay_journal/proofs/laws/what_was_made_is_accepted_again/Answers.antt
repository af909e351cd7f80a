use Rattle.relay_journal.proofs.Accepting.{accepted_again}
use Rattle.relay_journal.proofs.laws.what_was_made_is_accepted_again.Goals as goal

pub returns : goal.returns
returns c = accepted_again
