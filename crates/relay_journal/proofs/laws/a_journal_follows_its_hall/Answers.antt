use Rattle.relay_journal.proofs.Noting.{first_stands, noted_stand, said_stand}
use Rattle.relay_journal.proofs.laws.a_journal_follows_its_hall.Goals as goal

pub returns-clause-first : goal.returns-clause-first
returns-clause-first c = first_stands

pub returns-clause-next : goal.returns-clause-next
returns-clause-next c = noted_stand

pub returns-clause-again : goal.returns-clause-again
returns-clause-again c = said_stand
