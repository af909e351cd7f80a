use Rattle.std.proofs.Common.{◌≡◌, ◌+◌, length, take, drop, refl, ◌∙◌, ap, arith}
use Rattle.std.specs.List.{copy_within}
use Rattle.std.proofs.lemmas.List.{with_items_is}
use Rattle.relay_frames.proofs.Moves.{moved_down, after_stays}
use Rattle.relay_frames.proofs.payload.move_down.Goals as goal

pub returns-clause-moved : goal.returns-clause-moved
returns-clause-moved c =
    let old = c.args.bytes.now.items in
    let bytes = c.unmask.new.bytes in
    let start = c.args.start in
    let size = c.args.size in
    let to = c.args.to in
    let long : length bytes ≡ c.args.bytes.now.len = c.unmask.ensures.len ∙ c.as_mut_slice.ensures.len in
    ap (take (to + size)) (c.copy_within.ensures.items ∙ ap (λ xs. copy_within xs start (start + size) to) (with_items_is c.args.bytes.now bytes long))
    ∙ moved_down old bytes _ start size to c.requires.down (omega (arith, long, c.requires.inside)) (c.unmask.ensures.before ∙ ap (take start) c.as_mut_slice.ensures.value) (c.unmask.ensures.payload ∙ rw c.as_mut_slice.ensures.value refl)

pub returns-clause-after : goal.returns-clause-after
returns-clause-after c =
    let old = c.args.bytes.now.items in
    let bytes = c.unmask.new.bytes in
    let start = c.args.start in
    let size = c.args.size in
    let to = c.args.to in
    let long : length bytes ≡ c.args.bytes.now.len = c.unmask.ensures.len ∙ c.as_mut_slice.ensures.len in
    ap (drop (start + size)) (c.copy_within.ensures.items ∙ ap (λ xs. copy_within xs start (start + size) to) (with_items_is c.args.bytes.now bytes long))
    ∙ after_stays old bytes start size to c.requires.down (omega (arith, long, c.requires.inside)) (c.unmask.ensures.after ∙ ap (drop (start + size)) c.as_mut_slice.ensures.value)
