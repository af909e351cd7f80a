use Rattle.std.proofs.Common.{refl, subst, sym}
use Rattle.std.specs.HashMap.{spare}
use Rattle.relay_core.specs.declared.reply.Reply.{Reply}
use Rattle.relay_core.specs.declared.step.Step.TheVariants.{End}
use Rattle.relay_hall.specs.Inner.{state_of}
use Rattle.relay_hall.specs.Steps.{StateMakes}
use Rattle.relay_hall.proofs.Floors.{showing, end_lives, end_makes}
use Rattle.relay_hall.proofs.floor.Floor.end.Goals as goal

pub invariant_of-self : goal.invariant_of-self
invariant_of-self c =
    let a = c.self.inside in
    let e = c.end-answer.ensures in
    end_lives a.limits c.args.board c.args.ending a.boards.entries c.end-answer.new.boards.entries c.end-answer.result e.answer e.refused e.swapped
    (spare a.boards) (spare c.end-answer.new.boards) c.self.invariant e.room

pub returns : goal.returns
returns c =
    let a = c.self.inside in
    let e = c.end-answer.ensures in
    rw (← c.self.view_is)
    (subst (λ (r : Reply). StateMakes (state_of a) (End c.args.board c.args.ending) r (showing (state_of a) c.end-answer.new.boards.entries)) (sym c.ended.ensures)
    (end_makes a.limits c.args.board c.args.ending a.boards.entries c.end-answer.new.boards.entries c.end-answer.result e.answer e.refused e.swapped (state_of a) refl))
