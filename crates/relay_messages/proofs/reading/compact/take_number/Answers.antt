use Rattle.std.proofs.Common.{◌≡◌, ◌++◌, ap, ◌∙◌, arith, rules, sym}
use Rattle.std.proofs.lemmas.Fmt.{decimal_digit}
use Rattle.relay_messages.proofs.reading.compact.take_number.Goals as goal

pub digits-init : goal.digits-init
digits-init c =
    let first = c.in_ok-first.first in
    let rest = c.in_ok-first.rest.now in
    let same : c.from-number.result ≡ first = grind arith in
    record { written = rw same (c.in_ok-first.ensures.written ∙ ap (λ ds. ds ++ rest) (sym (decimal_digit first c.in_ok-first.ensures.digit))); utf8 = search rules }
