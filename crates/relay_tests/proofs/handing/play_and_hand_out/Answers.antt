use Rattle.std.proofs.Common.{[]}
use Rattle.relay_tests.proofs.Handed.{handed}
use Rattle.relay_tests.proofs.handing.play_and_hand_out.Goals as goal

pub returns-clause-lawful : goal.returns-clause-lawful
returns-clause-lawful c = (c.in_ok-replies.ensures.headline c.args.limits [] c.in_ok-relay.ensures.stands).stands.lawful

pub returns-clause-handed : goal.returns-clause-handed
returns-clause-handed c =
    handed c.args.limits _ _ c.args.board.now _ (c.in_ok-replies.ensures.headline c.args.limits [] c.in_ok-relay.ensures.stands) c.into_board.ensures.game
