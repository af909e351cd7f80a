use Rattle.std.proofs.Common.{◌∷◌, ◌++◌, [], ◌∙◌, sym}
use Rattle.c960_game.proofs.lemmas.DrawFacts.{outcome_more}
use Rattle.c960_game.proofs.lemmas.LogFacts.{last_more}
use Rattle.c960_game.proofs.game.Game.outcome_after.Goals as goal

pub returns-in-Some : goal.returns-in-Some
returns-in-Some c =
    let n = c.args.self.now.start in
    let l = c.args.self.now.log in
    let e = outcome_more n (l ++ c.args.m ∷ []) c.args.next.now (last_more n l c.args.m ∙ sym c.requires.next) in
    sym (rw (sym c.outcome_of.ensures ∙ c.in-Some.is) at e)

pub returns-in-None : goal.returns-in-None
returns-in-None c =
    let n = c.args.self.now.start in
    let l = c.args.self.now.log in
    let e = outcome_more n (l ++ c.args.m ∷ []) c.args.next.now (last_more n l c.args.m ∙ sym c.requires.next) in
    c.draw_of.ensures
    ∙ rw (c.appearances_after.ensures, c.half_moves.ensures, c.position.ensures.value)
    (sym (rw (sym c.outcome_of.ensures ∙ c.in-None.is) at e))
