use Rattle.std.proofs.Common.{sym, ◌∙◌, ap}
use Rattle.c960_board.specs.declared.piece.Colour.{Colour}
use Rattle.c960_board.specs.Cells.{rights_of}
use Rattle.c960_rules.specs.Inner.Listing.{triple}
use Rattle.c960_rules.proofs.CastlingSight.{none_without_rights}
use Rattle.c960_rules.proofs.goals.rooks_to_castle.Goals as goal

pub returns-then-has_none : goal.returns-then-has_none
returns-then-has_none c =
    let p = c.args.position.now in
    let had = ap (λ (d : Colour). rights_of p.rights d) c.turn-turn.ensures in
    λ t k _ _. none_without_rights p (triple c.args.from t k) (rights_of p.rights c.turn-turn.result) had (sym c.has_none.ensures ∙ c.if-has_none.true)
