use Rattle.std.proofs.Common.{sym, ap, ◌∙◌}
use Rattle.c960_game.specs.GameRecord.{GameRecord}
use Rattle.live_board.proofs.Games.{end_going}
use Rattle.live_board.proofs.board.Board.end.Goals as goal

pub finish-requires-clause-going : goal.finish-requires-clause-going
finish-requires-clause-going c =
    ap (λ (g : GameRecord). g.outcome) (sym c.self.invariant.game_is)
    ∙ end_going c.self.inside.game c.args.ending c.in_ok-outcome.outcome (sym c.end.ensures.answer ∙ c.in_ok-outcome.was)
