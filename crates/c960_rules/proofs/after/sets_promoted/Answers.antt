use Rattle.std.proofs.Common.{ℕ, ap, ◌∙◌, Option}
use Rattle.c960_board.specs.declared.piece.Kind.{Kind}
use Rattle.c960_board.specs.Moves.{Triple}
use Rattle.c960_board.specs.Pieces.{Cell}
use Rattle.c960_rules.specs.After.{landed}
use Rattle.c960_rules.proofs.lemmas.PieceFacts.{piece_on}
use Rattle.c960_rules.proofs.ListFacts.{goes_from_own}
use Rattle.c960_rules.proofs.AfterSets.{moved_sets}
use Rattle.c960_rules.proofs.after.sets_promoted.Goals as goal

pub returns : goal.returns
returns c =
    let p = c.args.position.now in
    let m = c.args.m.now in
    let from = ap (λ (t : Triple). t.from) c.m.view_is in
    let to = ap (λ (t : Triple). t.to) c.m.view_is in
    let promotion = ap (λ (t : Triple). t.promotion) c.m.view_is in
    let sets = c.sets.ensures.value in
    let lands =
    c.landed-piece.ensures ∙ ap (λ (o : Cell). landed o c.m.inside.promotion) (c.piece_at.ensures ∙ ap (λ (u : ℕ). piece_on p u) from)
    ∙ ap (λ (k : Option Kind). landed (piece_on p m.from) k) promotion in
    let left = c.taken_off-left.ensures in
    c.put_on.ensures ∙ rw (left, sets, lands, to)
    (moved_sets p m _ (goes_from_own p m c.requires.legal.goes) c.requires.ordinary c.sets.ensures.valid.placement.full
    c.requires.legal.move.to c.requires.changed)
