use Rattle.std.proofs.Common.{refl, ap}
use Rattle.live_board.specs.declared.setup.BoardSetup.{BoardSetup}
use Rattle.live_board.specs.Seats.{BoardSeat}
use Rattle.relay_hall.proofs.OneBoard.{moved_game, moved_setup, onto, onto_err}
use Rattle.relay_hall.proofs.hosted.Hosted.submit.Goals as goal

pub returns-clause-turned : goal.returns-clause-turned
returns-clause-turned c =
    let v = c.args.self.now.board.knows in
    let w = c.submit.new.self.knows in
    onto (λ s. record {
      table = c.submit.ensures.table;
      owner = refl;
      game = moved_game c.args.m v w s;
      limits = ap (λ (x : BoardSetup). x.limits) (moved_setup c.args.m v w s);
    }) c.submit.result c.submit.ensures.knows

pub returns-clause-refused : goal.returns-clause-refused
returns-clause-refused c =
    onto_err (λ e. ap (λ (b : BoardSeat). record { board = b; owner = c.args.self.now.owner }) e) c.submit.result c.submit.ensures.refused
