use Rattle.std.proofs.Common.{is_some}
use Rattle.std.specs.Cmp.{both_ways}
use Rattle.c960_game.specs.Tests.Moves.{is_legal_move}
use Rattle.c960_game.specs.Positions.{last_position}
use Rattle.c960_game.proofs.lemmas.KeptFacts.{position_is}
use Rattle.c960_game.proofs.lemmas.MoveFacts.{legal_move_tells, legal_move_from}
use Rattle.c960_game.proofs.game.Game.next.Goals as goal

pub returns-clause-test : goal.returns-clause-test
returns-clause-test c =
    let present = last_position c.args.self.now.start c.args.self.now.log in
    let legal = rw (position_is c.self.inside c.args.self.now c.self.invariant c.self.view_is) at c.play.ensures.legal in
    both_ways (is_some c.play.result) (is_legal_move present c.args.m)
    (λ given. legal_move_from present c.args.m (legal.0 given))
    (λ test. legal.1 (legal_move_tells present c.args.m test))
