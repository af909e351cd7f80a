use Rattle.std.proofs.Common.{ap, sym, not, ◌∙◌, ◌&&◌, arith}
use Rattle.std.specs.Prelude.{◌==◌}
use Rattle.c960_board.specs.declared.piece.Colour.{Colour}
use Rattle.c960_board.specs.Sets.{is_occupied}
use Rattle.c960_board.specs.Squares.{ahead}
use Rattle.c960_rules.specs.Tests.Reaches.{steps}
use Rattle.c960_rules.proofs.GoalFacts.{pawn_in, only_free, step_is}
use Rattle.c960_rules.proofs.lemmas.PieceFacts.{piece_on}
use Rattle.c960_rules.proofs.WhereFacts.{where_agree}
use Rattle.c960_rules.proofs.goals.single_step.Goals as goal

pub ahead-step-requires : goal.ahead-step-requires
ahead-step-requires c =
    let inner = pawn_in c.args.position.now c.args.from c.sets-sets.ensures.valid (omega arith) c.requires in
    record { low = inner.low; high = inner.high }

pub returns : goal.returns
returns c =
    let p = c.args.position.now in
    let s = c.args.from in
    let valid = c.sets-sets.ensures.valid in
    let inner = pawn_in p s valid (omega arith) c.requires in
    let step = c.ahead-step.ensures ∙ ap (λ (d : Colour). ahead d s) c.turn-turn.ensures in
    only_free p (ahead p.turn s) valid step c.only.ensures c.occupied.ensures.set
    ∙ where_agree (λ t. (t == ahead p.turn s) && not (is_occupied (piece_on p t))) (λ t. steps p.placement p.turn s t)
    (λ t l. sym (step_is p s t inner l))
