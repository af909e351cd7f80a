use Rattle.relay_core.specs.declared.reply.Taken.TheVariants as takes
use Rattle.relay_pushing.proofs.lemmas.Turns.{moved, failed}
use Rattle.relay_pushing.proofs.pushing.push_next.Goals as goal

pub returns-in-Ok-clause-pushed : goal.returns-in-Ok-clause-pushed
returns-in-Ok-clause-pushed g c =
    moved _ _ _ _ _ (takes.Move c.in-Move.field-0 c.in-Move.field-1) tt c.in-Move.ensures (rw c.in-Move.is at c.in-Ok.ensures.ok)

pub returns-in-Err-clause-pushed : goal.returns-in-Err-clause-pushed
returns-in-Err-clause-pushed g c =
    failed _ _ _ _ _ (takes.Move c.in-Move.field-0 c.in-Move.field-1) c.in-Err.fault c.in-Move.ensures c.in-Err.ensures.err

pub returns-in-Err-send_taken-clause-pushed : goal.returns-in-Err-send_taken-clause-pushed
returns-in-Err-send_taken-clause-pushed g c =
    failed _ _ _ _ _ (takes.Over c.in-Over.outcome) c.in-Err-send_taken.fault c.in-Over.ensures c.in-Err-send_taken.ensures.err

pub returns-in-Err-send_taken-2-clause-pushed : goal.returns-in-Err-send_taken-2-clause-pushed
returns-in-Err-send_taken-2-clause-pushed g c =
    failed _ _ _ _ _ takes.Cut c.in-Err-send_taken-2.fault c.in-Cut.ensures c.in-Err-send_taken-2.ensures.err
