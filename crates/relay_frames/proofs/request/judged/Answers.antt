use Rattle.relay_frames.proofs.Accepted.{answers_graphic}
use Rattle.relay_frames.proofs.request.judged.Goals as goal

pub invariant_of-result : goal.invariant_of-result
invariant_of-result c = record { graphic = answers_graphic _ _ c.in-Ok.ensures }
