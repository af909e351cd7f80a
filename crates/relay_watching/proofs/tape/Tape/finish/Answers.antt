use Rattle.std.proofs.Common.{rules, ◌≡◌, ◌++◌, ◌∷◌, [], length, None}
use Rattle.relay_frames.specs.Frames.{text_frame}
use Rattle.relay_watching.specs.Promised.{done_frame}
use Rattle.relay_watching.specs.Inner.TapeFields.{course_of}
use Rattle.relay_watching.specs.Texts.{over_answer}
use Rattle.relay_watching.proofs.Holdings.{kept_end}
use Rattle.relay_watching.proofs.Progresses.{end_goes_on}
use Rattle.relay_watching.proofs.tape.Tape.finish.Goals as goal

pub invariant_of-self-2 : goal.invariant_of-self-2
invariant_of-self-2 c =
    let course = course_of c.self.inside in
    let bytes = c.self.inside.bytes.items in
    let ends = c.self.inside.ends.items in
    let over = c.in_ok-over.over.items in
    let going : course.outcome ≡ None = rw (← c.self.view_is) at c.requires in
    let is : over ≡ text_frame (over_answer c.args.outcome) = search rules in
    let more_bytes : c.append-2.new.bytes.items ≡ (bytes ++ over) ++ done_frame = search rules in
    let more_ends : c.append-2.new.ends.items ≡ (ends ++ length (bytes ++ over) ∷ []) ++ length ((bytes ++ over) ++ done_frame) ∷ [] = search rules in
    rw (more_bytes, more_ends) (kept_end course c.args.outcome bytes ends over going c.self.invariant is)

pub returns-clause-goes_on : goal.returns-clause-goes_on
returns-clause-goes_on c =
    let course = course_of c.self.inside in
    let going : course.outcome ≡ None = rw (← c.self.view_is) at c.requires in
    rw (← c.self.view_is) (end_goes_on course c.args.outcome going)
