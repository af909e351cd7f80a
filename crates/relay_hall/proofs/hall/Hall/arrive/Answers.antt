use Rattle.relay_hall.specs.Inner.{hall_of}
use Rattle.relay_hall.proofs.lemmas.Reached.{arrived}
use Rattle.relay_hall.proofs.hall.Hall.arrive.Goals as goal

pub invariant_of-self : goal.invariant_of-self
invariant_of-self c =
    let e = c.arrive.ensures in
    record {
      empty = c.self.invariant.empty;
      reached = arrived (hall_of c.self.inside) c.args.key.now c.arrive.new.self.rows.items c.arrive.result c.self.invariant.reached e.there e.counted e.others e.unchanged;
    }
