use Rattle.std.proofs.Common.{rules, ◌∙◌, ap}
use Rattle.c960_board.specs.declared.piece.Colour.{Colour}
use Rattle.c960_board.specs.declared.piece.Kind.TheVariants.{King}
use Rattle.c960_board.specs.Pieces.{man, other}
use Rattle.c960_rules.specs.Inner.Wheres.{where_set, is_leaper_on, is_slider_on}
use Rattle.c960_rules.proofs.WhereFacts.{occupied_where}
use Rattle.c960_rules.proofs.PinFacts.{IsGuarded, unpinned_are}
use Rattle.c960_rules.proofs.pins.unpinned.Goals as goal

pub returns-in-Some : goal.returns-in-Some
returns-in-Some c =
    let p = c.args.position.now in
    let king = c.king_of-king.result in
    let valid = c.sets-sets.ensures.valid in
    let turn = c.turn-turn.ensures in
    let by = c.other-theirs.ensures ∙ ap other turn in
    let guarded : IsGuarded p king c.leapers.result c.sliders.result c.occupied.result c.in-Some.pinned =
    record {
      on_board = c.king_of-king.ensures.bound;
      stands = c.king_of-king.ensures.stands ∙ ap (λ (d : Colour). man d King) turn;
      leapers_are = c.leapers.ensures ∙ ap (λ (d : Colour). where_set (λ s. is_leaper_on p.placement d s king)) by;
      no_leaper = c.if-leapers-ne0.false;
      sliders_are = c.sliders.ensures ∙ ap (λ (d : Colour). where_set (λ s. is_slider_on p.placement d s king)) by;
      occupied_are = occupied_where p valid c.occupied.ensures.set;
      blocked = c.in-Some.ensures;
    } in
    unpinned_are p king c.leapers.result c.sliders.result c.occupied.result c.in-Some.pinned valid guarded c.only.result
    (search rules) c.only.ensures
