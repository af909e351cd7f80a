use Rattle.std.proofs.Common.{length, ap, ◌∙◌, arith}
use Rattle.relay_messages.proofs.Turns.{on_err, turn_first}
use Rattle.relay_messages.proofs.passing.pass_rest.Goals as goal

pub turns-init : goal.turns-init
turns-init c = record {
  read = turn_first c.args.depth c.args.nest c.args.reader.now _ c.new.ensures;
  within = omega (arith, ap length c.new.ensures);
}

pub turn-requires-clause-room : goal.turn-requires-clause-room
turn-requires-clause-room c = c.turns.invariant.within

pub returns-in_err-turn-clause-err : goal.returns-in_err-turn-clause-err
returns-in_err-turn-clause-err c = on_err c.from_residual.result (c.turns.invariant.read ∙ c.in_err-turn.ensures.err)

pub turns-preserved : goal.turns-preserved
turns-preserved c = record {
  read = c.turns.invariant.read ∙ c.in_ok-turn.ensures.going (grind arith);
  within = c.in_ok-turn.ensures.within (grind arith);
}

pub returns-clause-ok : goal.returns-clause-ok
returns-clause-ok c = c.turns.invariant.read ∙ c.in_ok-turn.ensures.over (grind arith)
