use Rattle.std.proofs.Common.{◌++◌, ◌∷◌, [], List, sym, ap, ◌∙◌, arith, append_assoc}
use Rattle.c960_board.specs.Moves.{Triple}
use Rattle.relay_core.specs.Following.{stretch}
use Rattle.relay_core.proofs.lemmas.Stretches.{stretch_more}
use Rattle.relay_hall.proofs.shown.append_log.Goals as goal

pub loop-at-preserved : goal.loop-at-preserved
loop-at-preserved c =
    let log = c.args.board.now.knows.log in
    let before = c.args.moves.now.items in
    let more = stretch_more c.args.from c.loop-at.at log c.in-Some.m (omega (arith, c.loop-at.auto)) (sym c.move_at.ensures.value ∙ c.in-Some.is) in
    c.in_ok-push.ensures.items
    ∙ ap (λ (l : List Triple). l ++ c.in-Some.m ∷ []) c.loop-at.invariant
    ∙ append_assoc before (stretch c.args.from c.loop-at.at log) (c.in-Some.m ∷ [])
    ∙ ap (λ (l : List Triple). before ++ l) (sym more)
