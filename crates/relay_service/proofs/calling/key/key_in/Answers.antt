use Rattle.std.proofs.Common.{◌∙◌, sym}
use Rattle.relay_service.proofs.CallingFacts.Digests.{parsed_is_key_in}
use Rattle.relay_service.proofs.calling.key.key_in.Goals as goal

pub returns : goal.returns
returns c =
    parsed_is_key_in c.args.field.now c.digest_of.result c.parse-2.result (sym c.starts_with.ensures.value ∙ c.if-not-starts_with.false)
    (sym c.in_ok-parse.ensures.some) c.digest_of.ensures c.parse-2.ensures.some c.parse-2.ensures.value
