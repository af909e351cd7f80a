use Rattle.std.proofs.Common.{◌*◌, ◌/◌, ◌≤◌, ap, ◌∙◌, arith}
use Rattle.c960_game.specs.declared.kept_positions.TheConstants.{MILE}
use Rattle.c960_game.specs.GameRecord.{GameRecord}
use Rattle.c960_game.proofs.lemmas.KeptFacts.{game_is, milestones_are}
use Rattle.c960_game.proofs.MilestoneFacts.{milestone_is}
use Rattle.c960_game.proofs.StretchFacts.{few_in_stretch, legal_stretch, position_stretch, half_moves_stretch, number_stretch}
use Rattle.c960_game.proofs.game.Game.earlier.Goals as goal

pub new-requires : goal.new-requires
new-requires c =
    let n = c.args.self.now.start in
    let l = c.args.self.now.log in
    let kept = milestones_are c.self.inside c.args.self.now c.self.invariant c.self.view_is in
    let game = game_is c.self.inside c.args.self.now c.self.invariant c.self.view_is in
    let read = rw c.from-mile.ensures at c.index.ensures in
    let begins = milestone_is n l c.self.inside.milestones.items c.args.place c.index.result.now kept c.requires read in
    let log = c.deref.ensures.value ∙ ap (λ (g : GameRecord). g.log) c.self.view_is in
    let from = c.args.place / MILE * MILE in
    let mile = c.from-mile.ensures in
    record {
      few = rw (mile, c.from.ensures, log) (few_in_stretch l c.args.place);
      legal = rw (mile, begins, log) (legal_stretch n l from _ game.legal);
      half_moves = rw (mile, begins, log) (half_moves_stretch n l from _ (omega (arith, game.within, game.most_plies)));
      number = rw (mile, begins, log) (number_stretch n l from _ (omega (arith, game.within, game.most_plies)));
    }

pub returns : goal.returns
returns c =
    let n = c.args.self.now.start in
    let l = c.args.self.now.log in
    let kept = milestones_are c.self.inside c.args.self.now c.self.invariant c.self.view_is in
    let read = rw c.from-mile.ensures at c.index.ensures in
    let begins = milestone_is n l c.self.inside.milestones.items c.args.place c.index.result.now kept c.requires read in
    let log = c.deref.ensures.value ∙ ap (λ (g : GameRecord). g.log) c.self.view_is in
    let past : c.args.place / MILE * MILE ≤ c.args.place = omega arith in
    (rw (c.from-mile.ensures, c.from.ensures, begins, log) at c.new.ensures) ∙ position_stretch n l (c.args.place / MILE * MILE) c.args.place past
