use Rattle.std.proofs.Common.{refl, subst, sym}
use Rattle.std.specs.HashMap.{spare}
use Rattle.relay_core.specs.declared.reply.Reply.{Reply}
use Rattle.relay_core.specs.declared.step.Step.TheVariants.{Submit}
use Rattle.relay_hall.specs.Inner.{state_of}
use Rattle.relay_hall.specs.Steps.{StateMakes}
use Rattle.relay_hall.proofs.Floors.{showing, submit_lives, submit_makes}
use Rattle.relay_hall.proofs.floor.Floor.submit.Goals as goal

pub invariant_of-self : goal.invariant_of-self
invariant_of-self c =
    let a = c.self.inside in
    let e = c.play-answer.ensures in
    submit_lives a.limits c.args.board c.args.m a.boards.entries c.play-answer.new.boards.entries c.play-answer.result e.answer e.refused e.swapped
    (spare a.boards) (spare c.play-answer.new.boards) c.self.invariant e.room

pub returns : goal.returns
returns c =
    let a = c.self.inside in
    let e = c.play-answer.ensures in
    rw (← c.self.view_is)
    (subst (λ (r : Reply). StateMakes (state_of a) (Submit c.args.board c.args.m) r (showing (state_of a) c.play-answer.new.boards.entries)) (sym c.played.ensures)
    (submit_makes a.limits c.args.board c.args.m a.boards.entries c.play-answer.new.boards.entries c.play-answer.result e.answer e.refused e.swapped (state_of a) refl))
