use Rattle.relay_journal.proofs.Orderly.{restart_orderly, restart_while_there}
use Rattle.relay_journal.proofs.laws.a_restart_is_orderly.Goals as goal

pub returns-clause-orderly : goal.returns-clause-orderly
returns-clause-orderly c = restart_orderly

pub returns-clause-there : goal.returns-clause-there
returns-clause-there c = restart_while_there
