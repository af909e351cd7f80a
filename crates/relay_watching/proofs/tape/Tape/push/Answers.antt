use Rattle.std.proofs.Common.{rules, ◌≡◌, ◌++◌, ◌∷◌, [], length, None}
use Rattle.relay_frames.specs.Frames.{text_frame}
use Rattle.relay_watching.specs.Inner.TapeFields.{course_of}
use Rattle.relay_watching.specs.Texts.{move_answer}
use Rattle.relay_watching.proofs.Holdings.{kept_move}
use Rattle.relay_watching.proofs.Progresses.{move_goes_on}
use Rattle.relay_watching.proofs.tape.Tape.push.Goals as goal

pub invariant_of-self-2 : goal.invariant_of-self-2
invariant_of-self-2 c =
    let course = course_of c.self.inside in
    let bytes = c.self.inside.bytes.items in
    let ends = c.self.inside.ends.items in
    let frame = c.in_ok-frame.frame.items in
    let going : course.outcome ≡ None = rw (← c.self.view_is) at c.requires.going in
    let is : frame ≡ text_frame (move_answer (length course.moves) c.args.m) = search rules in
    let more_bytes : c.append.new.bytes.items ≡ bytes ++ frame = search rules in
    let more_ends : c.append.new.ends.items ≡ ends ++ length (bytes ++ frame) ∷ [] = search rules in
    let more_moves : c.push_reserved.new.self.items ≡ course.moves ++ c.args.m ∷ [] = search rules in
    rw (more_bytes, more_ends, more_moves) (kept_move course c.args.m bytes ends frame going c.self.invariant is)

pub returns-clause-goes_on : goal.returns-clause-goes_on
returns-clause-goes_on c =
    let course = course_of c.self.inside in
    let going : course.outcome ≡ None = rw (← c.self.view_is) at c.requires.going in
    let more_moves : c.push_reserved.new.self.items ≡ course.moves ++ c.args.m ∷ [] = search rules in
    rw (← c.self.view_is, more_moves) (move_goes_on course c.args.m going)
