use Rattle.relay_messages.proofs.Ports.{same_steps}
use Rattle.relay_messages.proofs.laws.commands_are_the_same_on_both_ports.Goals as goal

pub returns : goal.returns
returns c = same_steps
