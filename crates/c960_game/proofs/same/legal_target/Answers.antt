use Rattle.c960_game.proofs.CaptureFacts.{target_found}
use Rattle.c960_game.proofs.same.legal_target.Goals as goal

pub returns : goal.returns
returns c = target_found c.args.lawful.now c.ep_legal.result c.ep_legal.ensures.some c.ep_legal.ensures.value
