use Rattle.std.proofs.Common.{arith}
use Rattle.relay_messages.proofs.Whole.{more_read, not_read}
use Rattle.relay_messages.proofs.reading.any.read_object.Goals as goal

pub returns-in_err-found-clause-err : goal.returns-in_err-found-clause-err
returns-in_err-found-clause-err c fault =
    not_read c.args.text.now _ c.in_ok-reader.ensures.ok (c.in_err-found.ensures.err (grind arith))

pub returns-in-Some-clause-err : goal.returns-in-Some-clause-err
returns-in-Some-clause-err c fault =
    more_read c.args.text.now _ c.in_ok-reader.ensures.ok c.in_ok-found.found _ _ _ c.in-Some.ensures.value c.in_ok-found.ensures.ok
