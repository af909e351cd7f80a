use Rattle.std.proofs.Common.{true, ◌∙◌}
use Rattle.relay_hall.specs.Inner.{hall_of}
use Rattle.relay_hall.specs.Runs.{Shuts, Silent}
use Rattle.relay_hall.proofs.lemmas.Reached.{goes_on}
use Rattle.relay_hall.proofs.hall.Hall.shut.Goals as goal

pub invariant_of-self : goal.invariant_of-self
invariant_of-self c =
    let a = c.self.inside in
    record {
      empty = c.run_out.ensures.handed ∙ c.self.invariant.empty;
      reached = goes_on (hall_of a) c.self.invariant.reached Shuts Silent _
          (c.run_out.ensures.keys, (λ i. record (hall_of a) { floor = c.run_out.ensures.floor i; keys = c.run_out.new.holders.rows.items; shut = true }));
    }

pub returns : goal.returns
returns c =
    let a = c.self.inside in
    rw (← c.self.view_is)
    (c.run_out.ensures.keys, (λ i. record (hall_of a) { floor = c.run_out.ensures.floor i; keys = c.run_out.new.holders.rows.items; shut = true }))
