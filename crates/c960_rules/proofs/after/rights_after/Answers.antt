use Rattle.std.proofs.Common.{◌≡◌, sym, subst, ◌∙◌}
use Rattle.c960_board.specs.Moves.{Triple}
use Rattle.c960_rules.specs.After.{rights_after}
use Rattle.c960_rules.proofs.TableFacts.{two_squares}
use Rattle.c960_rules.proofs.after.rights_after.Goals as goal

pub returns : goal.returns
returns c =
    let p = c.args.position.now in
    subst (λ (t : Triple). c.without-2.result ≡ rights_after p t c.args.colour) c.m.view_is
    (two_squares p _ c.args.colour c.rights_of-rights.result c.without.result c.without-2.result c.rights_of-rights.ensures
    (sym c.stands.ensures ∙ c.if-stands.false)
    c.without-2.ensures.full c.without.ensures.files c.without-2.ensures.files)
