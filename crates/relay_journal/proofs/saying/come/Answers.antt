use Rattle.relay_hall.specs.Runs.{Comes}
use Rattle.relay_journal.proofs.Leading.{leads_nowhere, leads_silent}
use Rattle.relay_journal.proofs.saying.come.Goals as goal

pub returns-in-None : goal.returns-in-None
returns-in-None c = rw c.in-None.is (λ h. leads_nowhere c.args.hall.now h)

pub returns-in_ok-arrive-in-Some : goal.returns-in_ok-arrive-in-Some
returns-in_ok-arrive-in-Some c =
    rw c.in-Some.is (λ h. leads_silent c.args.hall.now h (Comes _) c.arrive.new.self c.in_ok-arrive-in-Some.ensures.came)
