use Rattle.std.proofs.Common.{refl}
use Rattle.relay_frames.specs.Codes.{may_be_sent}
use Rattle.relay_watching.proofs.frames.done.Goals as goal

pub invariant_of-close : goal.invariant_of-close
unfolding may_be_sent
invariant_of-close c = record { allowed = refl }
