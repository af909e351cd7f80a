use Rattle.std.proofs.Common.{[], take}
use Rattle.relay_hall.specs.Record.{games_of}
use Rattle.relay_journal.proofs.Accepting.{fit_again}
use Rattle.relay_journal.proofs.Fitting.{fit_front}
use Rattle.relay_journal.proofs.Noting.{all_fit}
use Rattle.relay_journal.proofs.Unrefused.{never_refused}
use Rattle.relay_journal.proofs.laws.what_stands_for_boards_is_accepted_again.Goals as goal

pub returns-clause-never_refused : goal.returns-clause-never_refused
returns-clause-never_refused c = λ ls f grace es stand says n at.
    let front = fit_front f.limits n es [] (games_of f) (all_fit ls f es stand says) in
    never_refused f.limits grace (take n es) front.0 front.1 at

pub returns-clause-accepted : goal.returns-clause-accepted
returns-clause-accepted c = λ ls f grace es small stand says n. fit_again f.limits grace es (games_of f) small (all_fit ls f es stand says) n
