use Rattle.std.proofs.Common.{◌∙◌, arith}
use Rattle.c960_game.specs.Inner.Replay.{AllLegal}
use Rattle.c960_game.proofs.lemmas.KeptFacts.{half_moves_room, number_room, position_is}
use Rattle.c960_game.proofs.lemmas.LogFacts.{position_after_none}
use Rattle.c960_game.proofs.game.Game.present.Goals as goal

pub new-requires-clause-legal : goal.new-requires-clause-legal
unfolding AllLegal
new-requires-clause-legal c = tt

pub new-requires-clause-half_moves : goal.new-requires-clause-half_moves
new-requires-clause-half_moves c = omega (arith, half_moves_room c.self.inside c.self.invariant)

pub new-requires-clause-number : goal.new-requires-clause-number
new-requires-clause-number c = omega (arith, number_room c.self.inside c.self.invariant)

pub returns : goal.returns
returns c = c.new.ensures ∙ position_after_none c.self.inside.position ∙ position_is c.self.inside c.args.self.now c.self.invariant c.self.view_is
