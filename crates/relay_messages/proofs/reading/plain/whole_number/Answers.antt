use Rattle.std.proofs.Common.{sym}
use Rattle.relay_messages.proofs.PlainFacts.{whole_number_read}
use Rattle.relay_messages.proofs.reading.plain.whole_number.Goals as goal

pub returns : goal.returns
returns c =
    whole_number_read c.args.text.now c.as_bytes-digits.result.now c.scan.result _ c.scan.ensures.parts (sym c.if-has_minus.ensures.value)
    c.as_bytes-digits.ensures.value c.to_u64.ensures
