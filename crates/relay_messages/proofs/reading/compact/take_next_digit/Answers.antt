use Rattle.std.proofs.Common.{◌≡◌, arith}
use Rattle.relay_messages.proofs.CompactBytes.{digit_written}
use Rattle.relay_messages.proofs.reading.compact.take_next_digit.Goals as goal

pub returns-clause-written : goal.returns-clause-written
returns-clause-written c =
    let number = c.args.number in
    let digit = c.in_ok-digit.digit in
    let same : c.from.result ≡ digit = grind arith in
    let small = c.in_ok-digit.ensures.digit in
    rw same (digit_written number digit c.args.text.now c.in_ok-digit.rest.now (omega arith) small (omega (arith, small)) c.in_ok-digit.ensures.written)
