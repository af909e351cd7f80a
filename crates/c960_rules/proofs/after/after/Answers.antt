use Rattle.std.proofs.Common.{refl, ap, sym, subst, ◌∙◌}
use Rattle.c960_board.specs.declared.piece.Colour.{Colour}
use Rattle.c960_board.specs.Pieces.{other}
use Rattle.c960_board.specs.Position.{IsPosition}
use Rattle.c960_rules.specs.After.{number_after}
use Rattle.c960_rules.proofs.lemmas.AfterFacts.{after_position}
use Rattle.c960_rules.proofs.AfterWords.{parts_after, placed_after}
use Rattle.c960_rules.proofs.after.after.Goals as goal

pub of_sets-requires-clause-valid : goal.of_sets-requires-clause-valid
of_sets-requires-clause-valid c =
    let p = c.args.position.now in
    let m = c.args.m.now in
    let turn = c.turn-turn.ensures in
    let white = c.rights_after.ensures in
    let black = c.rights_after-2.ensures in
    let made =
    parts_after p m c.sets_after-sets.result c.other.result (record { white = c.rights_after.result; black = c.rights_after-2.result })
    c.target_after.result c.half_moves_after.result c.number_after.result c.sets_after-sets.ensures (c.other.ensures ∙ ap other turn)
    (rw (white, black) refl) c.target_after.ensures c.half_moves_after.ensures
    (c.number_after.ensures ∙ ap (λ (d : Colour). number_after d c.number.result) turn ∙ ap (number_after p.turn) c.number.ensures) in
    subst IsPosition (sym made)
    (after_position p m c.sets-sets.ensures.valid c.requires.lawful c.requires.legal c.requires.half_moves c.requires.number)

pub of_sets-requires-clause-placed : goal.of_sets-requires-clause-placed
of_sets-requires-clause-placed c = placed_after c.args.position.now c.args.m.now c.sets_after-sets.result c.sets_after-sets.ensures

pub returns : goal.returns
returns c =
    let p = c.args.position.now in
    let m = c.args.m.now in
    let turn = c.turn-turn.ensures in
    let white = c.rights_after.ensures in
    let black = c.rights_after-2.ensures in
    c.of_sets.ensures
    ∙ parts_after p m c.sets_after-sets.result c.other.result (record { white = c.rights_after.result; black = c.rights_after-2.result })
    c.target_after.result c.half_moves_after.result c.number_after.result c.sets_after-sets.ensures (c.other.ensures ∙ ap other turn)
    (rw (white, black) refl) c.target_after.ensures c.half_moves_after.ensures
    (c.number_after.ensures ∙ ap (λ (d : Colour). number_after d c.number.result) turn ∙ ap (number_after p.turn) c.number.ensures)
