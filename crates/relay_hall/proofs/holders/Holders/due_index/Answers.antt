use Rattle.std.proofs.Common.{◌<◌, ◌≤◌, ◌∙◌, length, sym, true≢false, arith}
use Rattle.relay_hall.proofs.Standing.{none_due_yet, none_is_due}
use Rattle.relay_hall.proofs.holders.Holders.due_index.Goals as goal

pub loop-at-preserved : goal.loop-at-preserved
loop-at-preserved c =
    let rows = c.args.self.now.rows in
    let within : c.loop-at.at < length rows.items = omega (arith, rows.ok.0) in
    none_due_yet rows.items c.loop-at.at c.index.result.now within c.index.ensures c.args.now c.loop-at.invariant
    (λ due. true≢false (sym (c.is_due.ensures.due.1 due) ∙ c.if-is_due.false))

pub returns-clause-none : goal.returns-clause-none
returns-clause-none c =
    let rows = c.args.self.now.rows in
    let all : length rows.items ≤ c.loop-at.at = omega (arith, rows.ok.0) in
    λ none. none_is_due c.args.now rows.items c.loop-at.at all c.loop-at.invariant
