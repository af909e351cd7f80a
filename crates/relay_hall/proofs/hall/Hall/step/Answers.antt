use Rattle.std.proofs.Common.{refl, sym, subst}
use Rattle.relay_hall.specs.Inner.{hall_of}
use Rattle.relay_hall.specs.Record.{FloorRecord}
use Rattle.relay_hall.specs.Runs.{IsReached, Replied, Says}
use Rattle.relay_hall.proofs.lemmas.Reached.{goes_on}
use Rattle.relay_hall.proofs.hall.Hall.step.Goals as goal

pub invariant_of-self : goal.invariant_of-self
invariant_of-self c =
    let a = c.self.inside in
    let e = c.step_of-reply in
    record {
      empty = c.take_handed.ensures.empty;
      reached = subst (λ (f : FloorRecord). IsReached (record (hall_of a) { floor = f })) (sym c.take_handed.ensures.floor)
          (goes_on (hall_of a) c.self.invariant.reached (Says c.args.speaker.now c.args.step.now) (Replied e.result e.new.self.handed) (record (hall_of a) { floor = e.new.self.floor }) (e.ensures, refl));
    }

pub returns-clause-reached : goal.returns-clause-reached
returns-clause-reached c =
    let a = c.self.inside in
    let e = c.step_of-reply in
    rw (← c.self.view_is) (
      c.self.invariant.reached,
      subst (λ (f : FloorRecord). IsReached (record (hall_of a) { floor = f })) (sym c.take_handed.ensures.floor)
          (goes_on (hall_of a) c.self.invariant.reached (Says c.args.speaker.now c.args.step.now) (Replied e.result e.new.self.handed) (record (hall_of a) { floor = e.new.self.floor }) (e.ensures, refl)),
    )
