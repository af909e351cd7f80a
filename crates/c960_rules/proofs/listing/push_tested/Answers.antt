use Rattle.std.proofs.Common.{◌++◌, ◌∙◌, List, ap, sym}
use Rattle.std.proofs.lemmas.List.{append-nil}
use Rattle.c960_board.specs.Moves.{Triple}
use Rattle.c960_rules.specs.Inner.Listing.{legal_between}
use Rattle.c960_rules.proofs.SetLoops.{stretches_step, stretches_none, stretches_all, legal_on_is}
use Rattle.c960_rules.proofs.listing.push_tested.Goals as goal

pub loop-left-init : goal.loop-left-init
loop-left-init c =
    let p = c.args.position.now in
    let all = stretches_all (legal_between p c.args.from) _ 0 64 c.candidates-left.ensures in
    ap (λ (l : List Triple). c.args.moves.now.items ++ l) (all ∙ legal_on_is p c.args.from)

pub loop-left-preserved : goal.loop-left-preserved
loop-left-preserved c =
    let p = c.args.position.now in
    let k = c.lowest-to.result in
    stretches_step (legal_between p c.args.from) _ _ _ c.loop-left.left k c.without_lowest-left.result (c.without_lowest-left.ensures.taken_out _ c.lowest-to.ensures.lowest) c.lowest-to.ensures.lowest.least
    c.loop-left.invariant c.in_ok-push_at.ensures

pub returns : goal.returns
returns c =
    let f = legal_between c.args.position.now c.args.from in
    let none = stretches_none f c.loop-left.left c.loop-left-test.false in
    sym (append-nil c.loop-left.moves.items) ∙ ap (λ (l : List Triple). c.loop-left.moves.items ++ l) (sym none)
    ∙ c.loop-left.invariant
