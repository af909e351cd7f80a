use Rattle.std.proofs.Common.{◌∙◌}
use Rattle.relay_hall.specs.Inner.{hall_of}
use Rattle.relay_hall.specs.Runs.{Ends, Silent}
use Rattle.relay_hall.proofs.lemmas.Reached.{goes_on}
use Rattle.relay_hall.proofs.hall.Hall.end_all.Goals as goal

pub invariant_of-self : goal.invariant_of-self
invariant_of-self c =
    let a = c.self.inside in
    record {
      empty = c.sweep.ensures.handed ∙ c.self.invariant.empty;
      reached = goes_on (hall_of a) c.self.invariant.reached Ends Silent _ (λ i. record (hall_of a) { floor = c.sweep.ensures.floor i });
    }
