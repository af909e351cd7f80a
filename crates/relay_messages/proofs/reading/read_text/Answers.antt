use Rattle.std.proofs.Common.{sym, ap, ◌∙◌, inl}
use Rattle.relay_messages.specs.Decoding.{value_says}
use Rattle.relay_messages.proofs.reading.read_text.Goals as goal

pub returns-in-Ok : goal.returns-in-Ok
returns-in-Ok g c = inl (c.of.ensures ∙ sym (ap (value_says g.A.Asked.says) c.in-Ok.ensures))
