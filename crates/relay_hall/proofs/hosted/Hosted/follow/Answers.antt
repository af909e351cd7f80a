use Rattle.std.proofs.Common.{◌≡◌, length, sym, ap, ◌∙◌, refl, arith}
use Rattle.c960_game.specs.Positions.{position_at}
use Rattle.c960_game.specs.declared.refusal.Refusal.TheVariants.{NotYet, TooFarBack}
use Rattle.live_board.specs.declared.view.Part.{Part}
use Rattle.live_board.specs.declared.setup.BoardSetup.{BoardSetup}
use Rattle.live_board.specs.Board.{from_place}
use Rattle.relay_hall.proofs.OneBoard.{game_stays, joined_setup, not_refused, past, searched_setup}
use Rattle.relay_hall.proofs.hosted.Hosted.follow.Goals as goal

pub unreachable-requires : goal.unreachable-requires
unreachable-requires c =
    let board = c.follow.new.self.knows in
    let told = c.in_ok-follower.ensures in
    let f = c.in_ok-follower.follower in
    let early = past board.setup.start board.log c.joined.result (sym c.replay_at.ensures.value ∙ c.in_default.is) in
    let from : f.part.joined ≡ from_place c.args.self.now.board.knows c.args.from = ap (λ (p : Part). p.joined) told.follower.1 in
    not_refused f NotYet (sym c.in_ok-follower.was ∙ c.follow.ensures.not_yet.1 (omega (arith, early, c.joined.ensures, from, ap length c.follow.ensures.log)))

pub returns-clause-answer : goal.returns-clause-answer
returns-clause-answer c =
    let told = c.in_ok-follower.ensures in
    let f = c.in_ok-follower.follower in
    let done = sym c.in_ok-follower.was in
    let setup = joined_setup _ _ _ _ told.knows in
    record {
      not_yet = ((λ h. absurd (not_refused _ _ h)), (λ h. absurd (not_refused f NotYet (done ∙ c.follow.ensures.not_yet.1 h))));
      too_far_back = ((λ h. absurd (not_refused _ _ h)), (λ h. absurd (not_refused f TooFarBack (done ∙ c.follow.ensures.too_far_back.1 h))));
      refusals = tt;
      table = told.follower.0;
      part = told.follower.1;
      position =
          (λ i. position_at (sym setup i).start (sym c.follow.ensures.log i) (sym c.joined.ensures i))
          ∙ sym c.replay_at.ensures.value
          ∙ c.in-Some.is;
      sound = told.sound_part;
    }

pub returns-clause-turned : goal.returns-clause-turned
returns-clause-turned c =
    let v = c.args.self.now.board.knows in
    let w = c.follow.new.self.knows in
    let e = c.follow.ensures in
    let setup = joined_setup _ _ v w c.in_ok-follower.ensures.knows in
    record {
      table = e.table;
      owner = refl;
      game = game_stays v w setup e.log e.outcome;
      limits = ap (λ (x : BoardSetup). x.limits) setup;
    }

pub returns-in_err-follower-clause-turned : goal.returns-in_err-follower-clause-turned
returns-in_err-follower-clause-turned c =
    let v = c.args.self.now.board.knows in
    let w = c.follow.new.self.knows in
    let e = c.follow.ensures in
    let setup = searched_setup v w c.in_err-follower.ensures.refused in
    record {
      table = e.table;
      owner = refl;
      game = game_stays v w setup e.log e.outcome;
      limits = ap (λ (x : BoardSetup). x.limits) setup;
    }
