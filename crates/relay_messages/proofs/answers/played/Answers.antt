use Rattle.relay_messages.proofs.answers.played.Goals as goal

pub returns-in-None-clause-put : goal.returns-in-None-clause-put
returns-in-None-clause-put g c = rw c.in-None.is (rw c.format-place.ensures.text at c.put.ensures)

pub returns-in-Some-clause-put : goal.returns-in-Some-clause-put
returns-in-Some-clause-put g c = rw c.in-Some.is (rw (c.text.ensures, c.format-place.ensures.text) at c.put-in-Some.ensures)
