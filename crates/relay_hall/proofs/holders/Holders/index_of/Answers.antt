use Rattle.std.proofs.Common.{◌<◌, ◌∙◌, length, sym, arith}
use Rattle.relay_hall.proofs.Standing.{not_yet}
use Rattle.relay_hall.proofs.holders.Holders.index_of.Goals as goal

pub loop-at-preserved : goal.loop-at-preserved
loop-at-preserved c =
    let rows = c.args.self.now.rows in
    let within : c.loop-at.at < length rows.items = omega (arith, rows.ok.0) in
    not_yet rows.items c.loop-at.at c.index.result.now within c.index.ensures c.args.key.now c.loop-at.invariant (sym c.is_same.ensures ∙ c.if-is_same.false)
