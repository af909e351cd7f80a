use Rattle.std.proofs.Common.{rules, ℕ, ap, subst}
use Rattle.std.specs.Prelude.{bit_and}
use Rattle.c960_rules.specs.Inner.Pins.{HasOthers}
use Rattle.c960_rules.proofs.PinFacts.{blocked_more}
use Rattle.c960_rules.proofs.pins.pinned.Goals as goal

pub loop-left-preserved : goal.loop-left-preserved
loop-left-preserved c =
    let more = c.sole-pinned.result in
    let way = ap (λ (x : ℕ). bit_and x c.args.occupied) c.squares_between.ensures in
    blocked_more c.args.sliders c.loop-left.left c.lowest-slider.result c.without_lowest-left.result c.args.king c.args.occupied
    c.loop-left.pinned more (c.without_lowest-left.ensures.taken_out _ c.lowest-slider.ensures.lowest) (search rules) (search rules) c.loop-left.invariant
    (subst (λ (x : ℕ). HasOthers x more) way c.sole-pinned.ensures)
