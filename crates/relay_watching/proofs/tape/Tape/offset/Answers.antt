use Rattle.std.proofs.Common.{◌≤◌, length, arith, ◌∙◌}
use Rattle.std.proofs.lemmas.List.{get_or_read}
use Rattle.relay_watching.specs.Inner.TapeFields.{course_of}
use Rattle.relay_watching.proofs.Holdings.{offset_kept}
use Rattle.relay_watching.proofs.Promises.{length-tape_frames}
use Rattle.relay_watching.proofs.tape.Tape.offset.Goals as goal

pub index-requires : goal.index-requires
index-requires c =
    let course = course_of c.self.inside in
    let within : c.args.place ≤ length course.moves = rw (← c.self.view_is) at c.requires in
    omega (arith, length-tape_frames course, c.self.invariant.counted, c.self.inside.ends.ok.0)

pub returns-else-place-eq0 : goal.returns-else-place-eq0
returns-else-place-eq0 c =
    let course = course_of c.self.inside in
    let within : c.args.place ≤ length course.moves = rw (← c.self.view_is) at c.requires in
    rw (← c.self.view_is)
    (get_or_read c.self.inside.ends.items _ _ (omega (arith, length-tape_frames course, c.self.invariant.counted)) c.index.ensures 0
    ∙ offset_kept course c.self.inside.bytes.items c.self.inside.ends.items c.args.place c.self.invariant (omega (arith, length-tape_frames course)) (omega arith))
