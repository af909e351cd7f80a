use Rattle.std.proofs.Common.{◌-◌, ◌<◌, length, sym, ap, ◌∙◌, arith}
use Rattle.relay_messages.specs.Passing.{behind, begun_passed}
use Rattle.relay_messages.proofs.FirstValues.{begins_passed}
use Rattle.relay_messages.proofs.Turns.{if_false, if_true, on_err, turn_closes, turn_fails, turn_opens, turn_refused, turn_too_deep}
use Rattle.relay_messages.proofs.passing.Open.turn.Goals as goal

pub returns-in_err-is_closed-clause-err : goal.returns-in_err-is_closed-clause-err
returns-in_err-is_closed-clause-err c =
    let s = c.args.self.now in
    on_err c.from_residual.result (turn_refused c.args.depth s.outer.items s.innermost c.args.reader.now (c.in_err-is_closed.ensures.err (c.args.depth - length s.outer.items)))

pub returns-in-Some-clause-going : goal.returns-in-Some-clause-going
returns-in-Some-clause-going c goes =
    let s = c.args.self.now in
    let read = if_true _ _ _ _ (c.in_ok-is_closed.ensures.ok (c.args.depth - length s.outer.items)) c.if-is_closed.true in
    turn_closes c.args.depth s.outer.items s.innermost c.args.reader.now _ _ _ c.in-Some.ensures.items read

pub returns-in_err-beginning-clause-err : goal.returns-in_err-beginning-clause-err
returns-in_err-beginning-clause-err c =
    let s = c.args.self.now in
    let left = c.args.depth - length s.outer.items in
    let next = if_false _ _ _ _ (c.in_ok-is_closed.ensures.ok left) c.if-is_closed.false in
    on_err c.from_residual-in_err-beginning.result
    (turn_fails c.args.depth s.outer.items s.innermost c.args.reader.now _ next (ap behind (c.in_err-beginning.ensures.err left)))

pub returns-then-len-depth-clause-err : goal.returns-then-len-depth-clause-err
returns-then-len-depth-clause-err c =
    let s = c.args.self.now in
    let left = c.args.depth - length s.outer.items in
    let next = if_false _ _ _ _ (c.in_ok-is_closed.ensures.ok left) c.if-is_closed.false in
    let opened = begins_passed c.in_ok-beginning.beginning c.closes.new.reader c.take_beginning.new.reader c.in_ok-beginning.ensures.begins left
    ∙ ap (λ o. begun_passed o left c.take_beginning.new.reader) (sym c.in-Some-opens.ensures) in
    turn_too_deep c.args.depth s.outer.items s.innermost c.args.reader.now _ next c.in-Some-opens.inner c.take_beginning.new.reader (grind arith) opened

pub returns-clause-going : goal.returns-clause-going
returns-clause-going c goes =
    let s = c.args.self.now in
    let left = c.args.depth - length s.outer.items in
    let next = if_false _ _ _ _ (c.in_ok-is_closed.ensures.ok left) c.if-is_closed.false in
    let opened = begins_passed c.in_ok-beginning.beginning c.closes.new.reader c.take_beginning.new.reader c.in_ok-beginning.ensures.begins left
    ∙ ap (λ o. begun_passed o left c.take_beginning.new.reader) (sym c.in-Some-opens.ensures) in
    let some : length s.outer.items < c.args.depth = grind arith in
    turn_opens c.args.depth s.outer.items s.innermost c.args.reader.now _ next c.in-Some-opens.inner c.take_beginning.new.reader c.push.new.self.items some c.push.ensures.items opened
