use Rattle.relay_service.proofs.FollowingFacts.Boards.{newcomer_in, untaken}
use Rattle.relay_service.proofs.FollowingFacts.Handing.{handed_in, told_of}
use Rattle.relay_service.proofs.following.laws.what_is_handed_out_may_follow.Goals as goal

pub returns-clause-handed : goal.returns-clause-handed
returns-clause-handed c = handed_in

pub returns-clause-untaken : goal.returns-clause-untaken
returns-clause-untaken c = untaken

pub returns-clause-told : goal.returns-clause-told
returns-clause-told c = told_of

pub returns-clause-is_in : goal.returns-clause-is_in
returns-clause-is_in c = newcomer_in
