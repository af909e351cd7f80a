use Rattle.std.proofs.Common.{sym, ◌∙◌}
use Rattle.std.proofs.lemmas.List.Sorted.{searched}
use Rattle.relay_watching.specs.Inner.TapeFields.{course_of}
use Rattle.relay_watching.proofs.Holdings.{found_end, end_last, ends_rise}
use Rattle.relay_watching.proofs.tape.Tape.is_end.Goals as goal

pub returns-then-at-end : goal.returns-then-at-end
returns-then-at-end c = sym (end_last c.args.self.now c.args.at (c.if-at-end.true ∙ c.end-end.ensures))

pub returns-else-at-eq0 : goal.returns-else-at-eq0
returns-else-at-eq0 c =
    let course = course_of c.self.inside in
    let ends = c.self.inside.ends.items in
    let found = searched ends c.args.at c.binary_search.result (rw c.deref.ensures.value at c.binary_search.ensures.position) (ends_rise _ _ _ c.self.invariant) in
    rw (← c.self.view_is, c.is_ok.ensures.value) (found_end course c.self.inside.bytes.items ends c.args.at c.binary_search.result c.self.invariant c.if-at-eq0.false found)
