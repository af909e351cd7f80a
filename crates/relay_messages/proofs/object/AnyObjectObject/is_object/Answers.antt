use Rattle.std.specs.Coded.{Coded-set, coded_bool}
use Rattle.std.proofs.Math.Logic.{∥∥₁_elim}
use Rattle.relay_messages.proofs.KeptFacts.{is_object_read}
use Rattle.relay_messages.proofs.object.AnyObjectObject.is_object.Goals as goal

pub returns : goal.returns
returns c = ∥∥₁_elim c.args.self.now.read (Coded-set coded_bool _ _) (is_object_read _ _)
