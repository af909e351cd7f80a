use Rattle.std.proofs.Common.{ap, sym, ◌∙◌}
use Rattle.c960_board.specs.Moves.{Triple}
use Rattle.c960_rules.proofs.AfterWords.{own_castles, to_own}
use Rattle.c960_rules.proofs.after.sets_after.Goals as goal

pub sets_castled-requires : goal.sets_castled-requires
sets_castled-requires c =
    let p = c.args.position.now in
    let m = c.args.m.now in
    let to = ap (λ (t : Triple). t.to) c.m.view_is in
    own_castles p m c.requires
    (sym (to_own p m c.is_occupied_by.result c.turn.result c.m.inside.to c.is_occupied_by.ensures c.turn.ensures to) ∙ c.if-is_occupied_by.true)

pub sets_moved-requires-clause-ordinary : goal.sets_moved-requires-clause-ordinary
sets_moved-requires-clause-ordinary c =
    let p = c.args.position.now in
    let m = c.args.m.now in
    let to = ap (λ (t : Triple). t.to) c.m.view_is in
    sym (to_own p m c.is_occupied_by.result c.turn.result c.m.inside.to c.is_occupied_by.ensures c.turn.ensures to) ∙ c.if-is_occupied_by.false
