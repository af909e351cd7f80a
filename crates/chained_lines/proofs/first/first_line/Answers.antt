use Rattle.std.proofs.Common.{refl, ℕ, List, ◌∷◌, get_or, ◌∙◌, sym, ap}
use Rattle.std.specs.Prelude.{◌==◌}
use Rattle.chained_lines.specs.Lines.{read_lines}
use Rattle.chained_lines.proofs.Counting.{behind_mark, has_seal, reads_line, reads_no_line, reads_nothing, stands_there}
use Rattle.chained_lines.proofs.first.first_line.Goals as goal

pub returns-in_err-text-clause-none : goal.returns-in_err-text-clause-none
returns-in_err-text-clause-none c = λ _. reads_nothing c.args.before.now c.args.bytes.now (c.in_err-text.ensures.none refl)

pub returns-in_err-seal-clause-none : goal.returns-in_err-seal-clause-none
returns-in_err-seal-clause-none c = λ _.
    let parts = c.in_ok-text.ensures.some in
    let text = c.in_ok-text.text.now in
    ap (λ (t : List ℕ). read_lines c.args.before.now t) parts.1
    ∙ reads_no_line c.args.before.now text c.in_ok-text.rest.now parts.0 (sym c.in_err-seal.ensures.counts)

pub returns-clause-some : goal.returns-clause-some
returns-clause-some c =
    let parts = c.in_ok-text.ensures.some in
    let text = c.in_ok-text.text.now in
    let rest = c.in_ok-text.rest.now in
    ap (λ (t : List ℕ). read_lines c.args.before.now t) parts.1
    ∙ reads_line c.args.before.now text rest parts.0 (sym c.in_ok-seal.ensures.counts)
    ∙ ap (λ (s : List ℕ). record { is_first = get_or text 16 0 == 62; body = behind_mark text } ∷ read_lines s rest) (sym c.in_ok-seal.ensures.seal)

pub returns-clause-front : goal.returns-clause-front
returns-clause-front c =
    let parts = c.in_ok-text.ensures.some in
    parts.1 ∙ stands_there c.args.before.now c.in_ok-text.text.now c.in_ok-text.rest.now (sym c.in_ok-seal.ensures.counts)

pub returns-clause-seal : goal.returns-clause-seal
returns-clause-seal c =
    c.in_ok-seal.ensures.seal ∙ has_seal c.args.before.now c.in_ok-text.text.now (sym c.in_ok-seal.ensures.counts)
