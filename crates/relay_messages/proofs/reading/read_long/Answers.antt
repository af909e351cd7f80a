use Rattle.std.proofs.Common.{sym, ap, ◌∙◌, inl}
use Rattle.relay_messages.specs.Decoding.{value_says}
use Rattle.relay_messages.proofs.reading.read_long.Goals as goal

pub returns-in-Ok-true : goal.returns-in-Ok-true
returns-in-Ok-true g c =
    let read = c.in-Ok-true.ensures c.in-Ok-true.field-0-test in
    inl (c.of.ensures ∙ sym (ap (value_says g.A.Asked.says) read))
