use Rattle.std.proofs.Common.{sym, ap, ◌∙◌}
use Rattle.c960_board.specs.declared.parts.Parts.{Parts}
use Rattle.c960_board.specs.Pieces.{other}
use Rattle.c960_game.proofs.EndFacts.{going, checkmate, stalemate}
use Rattle.c960_game.proofs.game.outcome_of.Goals as goal

pub returns-in-Going : goal.returns-in-Going
returns-in-Going c = sym ((going c.args.position.now).1 (c.state.ensures.going.0 c.in-Going.is))

pub returns-in-Checkmate : goal.returns-in-Checkmate
returns-in-Checkmate c =
    let turn = c.turn.ensures ∙ ap (λ (p : Parts). p.turn) c.position.ensures.value in
    let mate = c.state.ensures.checkmate.0 c.in-Checkmate.is in
    sym ((checkmate c.args.position.now c.other.result).1 (mate, c.other.ensures ∙ ap other turn))

pub returns-in-Stalemate : goal.returns-in-Stalemate
returns-in-Stalemate c = sym ((stalemate c.args.position.now).1 (c.state.ensures.stalemate.0 c.in-Stalemate.is))
