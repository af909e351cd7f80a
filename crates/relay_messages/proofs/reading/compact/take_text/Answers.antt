use Rattle.std.proofs.Common.{◌≡◌, ◌∷◌, ◌++◌, ap, ◌∙◌, drop, take, arith}
use Rattle.std.proofs.lemmas.Grind.{common_steps}
use Rattle.json.specs.Print.{quoted}
use Rattle.relay_messages.proofs.CompactBytes.{text_written}
use Rattle.relay_messages.proofs.reading.compact.take_text.Goals as goal

pub returns : goal.returns
returns c =
    let inside = c.in_ok-inside.inside.now in
    let rest = c.in_ok-rest.rest.now in
    let len = c.plain_len-len.result in
    let bytes : c.as_bytes.result.now ≡ inside = grind arith in
    let closed : drop len inside ≡ 34 ∷ rest = grind (arith, common_steps) in
    let text : take len inside ≡ c.range.result.now = grind (arith, common_steps) in
    text_written c.args.text.now inside rest len c.in_ok-inside.ensures closed (rw bytes at c.plain_len-len.ensures.plain)
    ∙ ap (λ taken. quoted taken ++ rest) text
