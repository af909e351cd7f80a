use Rattle.std.proofs.Common.{rules, sym, ap, ◌∙◌}
use Rattle.c960_game.specs.GameRecord.{GameRecord}
use Rattle.live_board.proofs.Games.{play_going}
use Rattle.live_board.proofs.Orders.{submitted_in_order}
use Rattle.live_board.proofs.board.Board.submit.Goals as goal

pub publish-requires-clause-going : goal.publish-requires-clause-going
publish-requires-clause-going c =
    c.close_full.ensures.outcome ∙ ap (λ (g : GameRecord). g.outcome) (sym c.self.invariant.game_is)
    ∙ play_going c.self.inside.game c.args.m c.in_ok-outcome.outcome (sym c.play.ensures.answer ∙ c.in_ok-outcome.was)

pub returns-clause-order : goal.returns-clause-order
returns-clause-order c = submitted_in_order c.args.m c.args.self.now.knows c.publish.new.self.knows (search rules)
