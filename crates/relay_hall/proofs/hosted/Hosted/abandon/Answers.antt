use Rattle.std.proofs.Common.{sym, ◌∙◌}
use Rattle.relay_hall.proofs.Sweeps.{abandoned_is}
use Rattle.relay_hall.proofs.hosted.Hosted.abandon.Goals as goal

pub returns-then-has_left : goal.returns-then-has_left
returns-then-has_left g c =
    let e = c.end.ensures in
    abandoned_is (g.L.Leaver.gone c.args.left.now) c.args.self.now c.end.new.self c.end.result (sym c.has_left.ensures ∙ c.if-has_left.true) e.answer e.refused e.table e.knows
