use Rattle.relay960.proofs.Opening.{journal_of}
use Rattle.relay960.proofs.journal.opening.journal_in.Goals as goal

pub returns-clause-journal : goal.returns-clause-journal
returns-clause-journal c = λ ls said. journal_of _ _ ls _ said
