use Rattle.std.proofs.Common.{◌≡◌, ◌≤◌, ◌<◌, ◌∙◌, ◌-◌, length, take, sym, ap, arith, min, nat_eq}
use Rattle.std.specs.Cmp.Lexicographic.{pointwise}
use Rattle.relay_frames.specs.declared.request.TheConstants.{MOST_HEAD_BYTES}
use Rattle.relay_frames.specs.Heads.{blank_end_behind}
use Rattle.relay_frames.proofs.Ends.{found_at, not_found, not_found_at}
use Rattle.relay_frames.proofs.request.end_of_head.Goals as goal

pub loop-at-init : goal.loop-at-init
loop-at-init c =
    let same : c.args.seen - 3 ≡ c.max-at.result - 3 = omega (arith, c.max-at.ensures) in
    ap (λ k. blank_end_behind k (take MOST_HEAD_BYTES c.args.bytes.now)) same

pub returns-then-eq-clause-end : goal.returns-then-eq-clause-end
returns-then-eq-clause-end c =
    let within : c.loop-at.at < min (length c.args.bytes.now) MOST_HEAD_BYTES = omega (arith, c.loop-at-test.true, c.min-at-end.ensures) in
    let some : 3 ≤ c.loop-at.at = omega (arith, c.loop-at.auto.at, c.max-at.ensures) in
    found_at c.loop-at.at MOST_HEAD_BYTES c.args.bytes.now some within (sym c.if-eq.true ∙ c.eq.ensures ∙ ap (pointwise nat_eq _) c.as_slice.ensures) ∙ sym c.loop-at.invariant

pub loop-at-preserved : goal.loop-at-preserved
loop-at-preserved c =
    let within : c.loop-at.at < min (length c.args.bytes.now) MOST_HEAD_BYTES = omega (arith, c.loop-at-test.true, c.min-at-end.ensures) in
    let some : 3 ≤ c.loop-at.at = omega (arith, c.loop-at.auto.at, c.max-at.ensures) in
    c.loop-at.invariant ∙ not_found_at c.loop-at.at MOST_HEAD_BYTES c.args.bytes.now some within (sym c.if-eq.false ∙ c.eq.ensures ∙ ap (pointwise nat_eq _) c.as_slice.ensures)

pub returns-clause-end : goal.returns-clause-end
returns-clause-end c =
    let end : min (length c.args.bytes.now) MOST_HEAD_BYTES ≤ c.loop-at.at = omega (arith, c.loop-at-test.false, c.min-at-end.ensures) in
    let some : 3 ≤ c.loop-at.at = omega (arith, c.loop-at.auto.at, c.max-at.ensures) in
    sym (c.loop-at.invariant ∙ not_found c.loop-at.at MOST_HEAD_BYTES c.args.bytes.now end some)
