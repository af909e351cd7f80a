use Rattle.std.proofs.Common.{◌<◌, length, get_or, arith}
use Rattle.std.proofs.lemmas.Grind.{common_steps}
use Rattle.std.proofs.lemmas.Str.{IsCharBoundary-after_ascii}
use Rattle.relay_messages.proofs.reading.compact.after.Goals as goal

pub range_from-requires : goal.range_from-requires
range_from-requires c =
    let text = c.args.text.now in
    let some : 0 < length text = grind (arith, common_steps) in
    let ascii : get_or text 0 0 < 128 = grind (arith, common_steps) in
    λ _. IsCharBoundary-after_ascii text 0 c.utf8.text some ascii
