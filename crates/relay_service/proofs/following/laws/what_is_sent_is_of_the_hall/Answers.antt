use Rattle.relay_service.proofs.FollowingFacts.Shown.{shown}
use Rattle.relay_service.proofs.following.laws.what_is_sent_is_of_the_hall.Goals as goal

pub returns : goal.returns
returns c = shown
