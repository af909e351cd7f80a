use Rattle.relay_messages.proofs.answers.with_outcome.Goals as goal

pub returns-clause-put : goal.returns-clause-put
returns-clause-put g c = rw c.text.ensures at c.put.ensures
