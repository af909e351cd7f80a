use Rattle.std.proofs.Common.{◌≡◌, Some, None, arith}
use Rattle.json.specs.Json.{read_key}
use Rattle.relay_messages.proofs.Turns.{array_step, object_closes, object_goes_on, object_has_no_key, on_err}
use Rattle.relay_messages.proofs.passing.closes.Goals as goal

pub returns-in-Array-clause-ok : goal.returns-in-Array-clause-ok
returns-in-Array-clause-ok c = array_step c.args.nest _ c.args.reader.now _ c.in-Array.is c.take_end_array.ensures

pub returns-in-Some-clause-ok : goal.returns-in-Some-clause-ok
returns-in-Some-clause-ok c =
    let key : read_key c.args.reader.now ≡ Some (Some c.in-Some.field-0.now, c.next_key.new.self) = grind arith in
    object_goes_on c.args.nest c.args.reader.now c.in-Object.is _ _ key

pub returns-in-None-clause-ok : goal.returns-in-None-clause-ok
returns-in-None-clause-ok c =
    let key : read_key c.args.reader.now ≡ Some (None, c.next_key.new.self) = grind arith in
    object_closes c.args.nest c.args.reader.now c.in-Object.is _ key

pub returns-in_err-next_key-in-Object-clause-err : goal.returns-in_err-next_key-in-Object-clause-err
returns-in_err-next_key-in-Object-clause-err c =
    on_err c.from_residual.result (object_has_no_key c.args.nest c.args.reader.now c.in-Object.is c.in_err-next_key-in-Object.ensures.value)
