use Rattle.std.proofs.Common.{arith, sym, ◌∙◌}
use Rattle.c960_game.proofs.lemmas.KeptFacts.{game_is, position_is, recent_is}
use Rattle.c960_game.proofs.PositionFacts.{times_bound}
use Rattle.c960_game.proofs.RecentFacts.{times_counted}
use Rattle.c960_game.proofs.game.Game.appearances.Goals as goal

pub returns : goal.returns
returns c =
    let game = game_is c.self.inside c.args.self.now c.self.invariant c.self.view_is in
    let recent = recent_is c.self.inside c.args.self.now c.self.invariant c.self.view_is in
    let present = position_is c.self.inside c.args.self.now c.self.invariant c.self.view_is in
    let counted = times_counted c.args.self.now.start c.args.self.now.log game.legal (omega (arith, game.within, game.most_plies)) in
    (rw (c.deref.ensures.value, recent, present) at c.count_same.ensures) ∙ sym counted

pub overflow_cast-result : goal.overflow_cast-result
overflow_cast-result c =
    let game = game_is c.self.inside c.args.self.now c.self.invariant c.self.view_is in
    let bound = times_bound c.args.self.now.start c.args.self.now.log in
    omega (arith, returns c, bound, game.within, game.most_plies)
