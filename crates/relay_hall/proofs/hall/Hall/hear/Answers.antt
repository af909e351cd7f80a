use Rattle.std.proofs.Common.{sym, subst, string_bytes}
use Rattle.relay_hall.specs.Inner.{hall_of}
use Rattle.relay_hall.specs.Record.{FloorRecord}
use Rattle.relay_hall.specs.Runs.{IsReached}
use Rattle.relay_hall.proofs.lemmas.Reached.{heard}
use Rattle.relay_hall.proofs.hall.Hall.hear.Goals as goal

pub invariant_of-self : goal.invariant_of-self
invariant_of-self c =
    let a = c.self.inside in
    let e = c.answer-heard in
    record {
      empty = c.take_handed.ensures.empty;
      reached = subst (λ (f : FloorRecord). IsReached (record (hall_of a) { floor = f })) (sym c.take_handed.ensures.floor)
          (heard string_bytes (hall_of a) e.new.self.floor c.args.speaker.now c.args.conn.now c.args.text.now e.new.self.handed e.new.conn e.result c.self.invariant.reached e.ensures.ok e.ensures.err);
    }

pub returns-clause-reached : goal.returns-clause-reached
returns-clause-reached c =
    let a = c.self.inside in
    let e = c.answer-heard in
    rw (← c.self.view_is) (
      c.self.invariant.reached,
      subst (λ (f : FloorRecord). IsReached (record (hall_of a) { floor = f })) (sym c.take_handed.ensures.floor)
          (heard string_bytes (hall_of a) e.new.self.floor c.args.speaker.now c.args.conn.now c.args.text.now e.new.self.handed e.new.conn e.result c.self.invariant.reached e.ensures.ok e.ensures.err),
    )
