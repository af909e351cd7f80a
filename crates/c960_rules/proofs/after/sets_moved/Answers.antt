use Rattle.std.proofs.Common.{◌≡◌, ap, sym, ◌∙◌, None}
use Rattle.c960_board.specs.Moves.{Triple}
use Rattle.c960_board.proofs.lemmas.Tests.{none_of}
use Rattle.c960_rules.proofs.ListFacts.{goes_from_own}
use Rattle.c960_rules.proofs.AfterSets.{carried_sets}
use Rattle.c960_rules.proofs.after.sets_moved.Goals as goal

pub returns : goal.returns
returns c =
    let p = c.args.position.now in
    let m = c.args.m.now in
    let promotion = ap (λ (t : Triple). t.promotion) c.m.view_is in
    let sets = c.sets.ensures.value in
    let some = c.is_some.ensures in
    let plain : m.promotion ≡ None = sym promotion ∙ none_of c.m.inside.promotion (sym some ∙ c.if-is_some.false) in
    c.all_carried.ensures
    ∙ rw sets
    (carried_sets p m _ plain (goes_from_own p m c.requires.legal.goes) c.requires.ordinary c.sets.ensures.valid.placement.full
    c.requires.legal.move.from c.requires.legal.move.to c.changed_by-changed.ensures)
