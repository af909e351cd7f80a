use Rattle.std.proofs.Common.{option_map, sym, ap, ◌∙◌}
use Rattle.serde_json.specs.Find.{as_u64}
use Rattle.relay_messages.proofs.FirstValues.{negative_text, unsigned_text}
use Rattle.relay_messages.proofs.passing.number_in.Goals as goal

pub returns-then-has_minus : goal.returns-then-has_minus
returns-then-has_minus c =
    c.negative.ensures ∙ ap (option_map as_u64) (negative_text _ _ c.scan.result c.as_bytes-bytes.ensures.value (sym c.if-has_minus.ensures.value) c.scan.ensures.parts)

pub returns-else-has_minus : goal.returns-else-has_minus
returns-else-has_minus c =
    c.unsigned.ensures ∙ ap (option_map as_u64) (unsigned_text _ _ c.scan-else-has_minus.result c.as_bytes-bytes.ensures.value (sym c.if-has_minus.ensures.value) c.scan-else-has_minus.ensures.parts)
