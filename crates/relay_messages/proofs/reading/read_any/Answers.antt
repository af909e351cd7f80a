use Rattle.std.proofs.Common.{sym, ap, ◌∙◌, inl}
use Rattle.relay_messages.specs.Decoding.{value_says}
use Rattle.relay_messages.proofs.reading.read_any.Goals as goal

pub returns-in-Ok-Some : goal.returns-in-Ok-Some
returns-in-Ok-Some g c =
    let read = rw c.in-Ok-Some.field-0-is at c.in-Ok-Some.ensures.ok in
    inl (c.of.ensures ∙ sym (ap (value_says g.A.Asked.says) read))

pub returns-in-Ok-None : goal.returns-in-Ok-None
returns-in-Ok-None g c =
    let other = rw c.in-Ok-None.field-0-is at c.in-Ok-None.ensures.ok in
    inl (sym (ap (value_says g.A.Asked.says) other.1 ∙ g.met.A.Asked.others other.0 other.2))
