use Rattle.std.proofs.Common.{subst, sym, arith, rules, ap, ◌∙◌, ◌≡◌, decimal}
use Rattle.std.specs.Str.{IsUtf8}
use Rattle.std.proofs.lemmas.Str.{IsUtf8-from_ascii}
use Rattle.std.proofs.lemmas.Fmt.{IsAscii-decimal, parse-decimal}
use Rattle.c960_board.proofs.fen.counters.read_number.Goals as goal

pub returns-in_default : goal.returns-in_default
returns-in_default c =
    λ n l e. absurd
    (c.in_default.ensures.cases.0 (subst IsUtf8 (sym e) (IsUtf8-from_ascii _ (IsAscii-decimal n (omega arith)))))

pub returns-in_default-parse : goal.returns-in_default-parse
returns-in_default-parse c = λ n l e.
    let r = parse-decimal 16 n _ c.parse.result (omega arith) (omega arith) (c.in-Ok.ensures.cases.0 ∙ e)
    c.parse.ensures.value.0 in
    absurd (c.in_default-parse.not-Ok n r)

pub returns-else-eq : goal.returns-else-eq
returns-else-eq c = λ n l e.
    let r = parse-decimal 16 n _ c.parse.result (omega arith) (omega arith) (c.in-Ok.ensures.cases.0 ∙ e)
    c.parse.ensures.value.0 in
    let o = c.in-Ok-parse.is in
    let same : n ≡ c.in-Ok-parse.number = cc in
    let text : c.as_bytes.result.now ≡ c.args.text.now =
    c.as_bytes.ensures.value ∙ c.format.ensures.text ∙ sym (ap decimal same) ∙ sym e in
    absurd (search rules)
