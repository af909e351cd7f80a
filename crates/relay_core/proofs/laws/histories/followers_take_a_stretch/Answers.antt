use Rattle.relay_core.proofs.Whole.{is_stretch}
use Rattle.relay_core.proofs.laws.histories.followers_take_a_stretch.Goals as goal

pub returns : goal.returns
returns c = is_stretch
