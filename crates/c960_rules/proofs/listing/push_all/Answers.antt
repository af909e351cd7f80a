use Rattle.std.proofs.Common.{◌++◌, ◌∙◌, List, ap, sym}
use Rattle.std.proofs.lemmas.List.{append-nil}
use Rattle.c960_board.specs.Moves.{Triple}
use Rattle.c960_rules.specs.Inner.Listing.{one_plain}
use Rattle.c960_rules.proofs.SetLoops.{stretches_step, stretches_none}
use Rattle.c960_rules.proofs.listing.push_all.Goals as goal

pub loop-left-preserved : goal.loop-left-preserved
loop-left-preserved c =
    stretches_step (one_plain c.args.from) _ _ _ c.loop-left.left c.lowest-to.result c.without_lowest-left.result
    (c.without_lowest-left.ensures.taken_out _ c.lowest-to.ensures.lowest) c.lowest-to.ensures.lowest.least c.loop-left.invariant c.in_ok-push_plain.ensures

pub returns : goal.returns
returns c =
    let none = stretches_none (one_plain c.args.from) c.loop-left.left c.loop-left-test.false in
    sym (append-nil c.loop-left.moves.items) ∙ ap (λ (l : List Triple). c.loop-left.moves.items ++ l) (sym none)
    ∙ c.loop-left.invariant
