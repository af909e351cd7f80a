use Rattle.relay_journal.proofs.Again.{said_again_stand}
use Rattle.relay_journal.proofs.laws.what_is_said_again_leads_to_the_boards.Goals as goal

pub returns : goal.returns
returns c = said_again_stand
