use Rattle.std.proofs.Common.{◌≤◌, length, sym, subst, rules, inl}
use Rattle.relay_messages.specs.declared.reading.TheConstants.{MOST_BYTES}
use Rattle.relay_messages.specs.Decoding.{IsReading}
use Rattle.relay_messages.proofs.lemmas.Decoding.{says_long, says_no_value, said_of_reading}
use Rattle.relay_messages.proofs.reading.read.Goals as goal

pub returns-then-text-gt-MOST_BYTES : goal.returns-then-text-gt-MOST_BYTES
returns-then-text-gt-MOST_BYTES g c = inl (sym (says_long g.A.Asked.says c.args.text.now (search rules)))

pub returns-in-Ok : goal.returns-in-Ok
returns-in-Ok g c =
    let says = g.A.Asked.says in
    let short : length c.args.text.now ≤ MOST_BYTES = search rules in
    said_of_reading says c.args.text.now c.read_text.result short c.in-Ok.ensures.cases.1
    (subst (λ text. IsReading says text c.read_text.result) c.in-Ok.ensures.cases.0 c.read_text.ensures)

pub returns-in-Err : goal.returns-in-Err
returns-in-Err g c =
    let short : length c.args.text.now ≤ MOST_BYTES = search rules in
    inl (sym (says_no_value g.A.Asked.says c.args.text.now short (λ is_text. absurd (c.in-Err.ensures.cases.0 is_text))))
