use Rattle.relay_hall.specs.Runs.{Goes, Silent}
use Rattle.relay_journal.proofs.Leading.{leads_nowhere, leads_silent}
use Rattle.relay_journal.proofs.saying.go.Goals as goal

pub returns-in-Opens-clause-goes : goal.returns-in-Opens-clause-goes
returns-in-Opens-clause-goes g c = rw c.in-Opens.is (λ h. leads_silent c.args.hall.now h (Goes _) c.leave.new.self c.leave.ensures)

pub returns-in-Opens-clause-written : goal.returns-in-Opens-clause-written
returns-in-Opens-clause-written g c = λ was.
    c.note.ensures.event c.args.hall.now (Goes (record { key = c.in-Opens.key; opener = c.args.who })) Silent c.leave.ensures was

pub returns-in-Plays-clause-goes : goal.returns-in-Plays-clause-goes
returns-in-Plays-clause-goes g c = rw c.in-Plays.is (λ h. leads_nowhere c.args.hall.now h)

pub returns-in-Ends-clause-goes : goal.returns-in-Ends-clause-goes
returns-in-Ends-clause-goes g c = rw c.in-Ends.is (λ h. leads_nowhere c.args.hall.now h)
