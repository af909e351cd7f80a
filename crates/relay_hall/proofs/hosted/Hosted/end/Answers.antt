use Rattle.std.proofs.Common.{refl, ap}
use Rattle.live_board.specs.declared.view.View.{View}
use Rattle.live_board.specs.Board.{game_of}
use Rattle.live_board.specs.Seats.{BoardSeat}
use Rattle.relay_hall.proofs.OneBoard.{onto, onto_err}
use Rattle.relay_hall.proofs.hosted.Hosted.end.Goals as goal

pub returns-clause-turned : goal.returns-clause-turned
returns-clause-turned c =
    onto (λ is. record {
      table = c.end.ensures.table;
      owner = refl;
      game = ap game_of is;
      limits = ap (λ (v : View). v.setup.limits) is;
    }) c.end.result c.end.ensures.knows

pub returns-clause-refused : goal.returns-clause-refused
returns-clause-refused c =
    onto_err (λ e. ap (λ (b : BoardSeat). record { board = b; owner = c.args.self.now.owner }) e) c.end.result c.end.ensures.refused
