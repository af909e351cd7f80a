use Rattle.relay_core.proofs.EndStays.{end_stays}
use Rattle.relay_core.proofs.laws.histories.the_end_stays.Goals as goal

pub returns : goal.returns
returns c = λ limits h later law board n outcome at over.
    let w = end_stays limits h later law board n outcome at over in (w.0, w.1)
