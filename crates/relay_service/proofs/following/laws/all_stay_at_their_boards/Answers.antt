use Rattle.relay_service.proofs.FollowingFacts.Boards.{in_wrote, once_in, step_in}
use Rattle.relay_service.proofs.FollowingFacts.Calls.{in_answers, in_closed, in_fails, in_gone, in_pinged}
use Rattle.relay_service.proofs.following.laws.all_stay_at_their_boards.Goals as goal

pub returns-clause-step : goal.returns-clause-step
returns-clause-step c = step_in

pub returns-clause-once : goal.returns-clause-once
returns-clause-once c = once_in

pub returns-clause-sent : goal.returns-clause-sent
returns-clause-sent c = in_wrote

pub returns-clause-said : goal.returns-clause-said
returns-clause-said c = in_answers

pub returns-clause-unsaid : goal.returns-clause-unsaid
returns-clause-unsaid c = in_fails

pub returns-clause-pinged : goal.returns-clause-pinged
returns-clause-pinged c = in_pinged

pub returns-clause-closed : goal.returns-clause-closed
returns-clause-closed c = in_closed

pub returns-clause-gone : goal.returns-clause-gone
returns-clause-gone c = in_gone
