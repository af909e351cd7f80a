use Rattle.std.proofs.Common.{ℕ, Bool, ◌+◌, ◌-◌, cond, ◌∷◌, length, ◌∙◌, sym, ap, arith, length-append}
use Rattle.std.specs.Prelude.{Some}
use Rattle.chained_lines.specs.Later.{searching}
use Rattle.chained_lines.proofs.Search.{search_none, to_feed}
use Rattle.chained_lines.proofs.later.later_write.Goals as goal

pub loop-behind-init : goal.loop-behind-init
loop-behind-init c = record { goes_on = ap (λ (n : ℕ). searching 0 n c.args.bytes.now) (omega arith); few = omega arith }

pub loop-behind-preserved : goal.loop-behind-preserved
loop-behind-preserved c =
    let was = c.loop-behind.invariant in
    let parts = c.in-Some.ensures.some in
    let text = c.in-Some.field-0-0.now in
    let behind = c.in-Some.behind.now in
    let found = to_feed c.args.bytes.now c.loop-behind.rest.now text behind c.loop-behind.line was.goes_on parts.1 parts.0 (omega (arith, was.few)) in
    let line = c.loop-behind.line + 1 in
    let place = length c.args.bytes.now - length behind in
    record {
      goes_on = found ∙ ap (λ (b : Bool). cond b (Some (record { line = line; byte = place })) (searching line place behind))
          (sym c.is_marked.ensures ∙ c.if-is_marked.false);
      few = omega (arith, was.few, ap length parts.1, length-append text (10 ∷ behind));
    }

pub returns-then-is_marked : goal.returns-then-is_marked
returns-then-is_marked c =
    let was = c.loop-behind.invariant in
    let parts = c.in-Some.ensures.some in
    let text = c.in-Some.field-0-0.now in
    let behind = c.in-Some.behind.now in
    let found = to_feed c.args.bytes.now c.loop-behind.rest.now text behind c.loop-behind.line was.goes_on parts.1 parts.0 (omega (arith, was.few)) in
    let line = c.loop-behind.line + 1 in
    let place = length c.args.bytes.now - length behind in
    sym (found ∙ ap (λ (b : Bool). cond b (Some (record { line = line; byte = place })) (searching line place behind))
    (sym c.is_marked.ensures ∙ c.if-is_marked.true))

pub returns : goal.returns
returns c =
    let was = c.loop-behind.invariant in
    sym (was.goes_on ∙ search_none c.loop-behind.line (length c.args.bytes.now - length c.loop-behind.rest.now) c.loop-behind.rest.now
    (c.split.ensures.none c.in_default.is))
