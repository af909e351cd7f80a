use Rattle.std.proofs.Common.{◌≡◌, ◌-◌, ◌==◌, suc, map, drop, slice_index, sym, ap, ◌∙◌, arith}
use Rattle.std.specs.Simd.Lanes.{mask_l}
use Rattle.relay_core.proofs.TagRows.{bool_below, bool_bit, none_marked, one_more_mark, room_for_mark}
use Rattle.relay_core.proofs.tags.last_marks.Goals as goal

pub overflow_mul-marks : goal.overflow_mul-marks
overflow_mul-marks c =
    record {
      fits = omega (
        arith,
        c.loop-place.invariant.are,
        c.loop-place-test.true,
        c.requires.few,
        room_for_mark c.args.tags.now c.args.tag c.loop-place.place (omega (arith, c.loop-place-test.true, c.requires.few)),
      );
    }

pub overflow_add-marks : goal.overflow_add-marks
overflow_add-marks c =
    record {
      fits = omega (
        arith,
        c.loop-place.invariant.are,
        c.loop-place-test.true,
        c.requires.few,
        bool_below (slice_index c.args.tags.now (c.loop-place.place - 1) == c.args.tag),
        c.from.ensures,
        room_for_mark c.args.tags.now c.args.tag c.loop-place.place (omega (arith, c.loop-place-test.true, c.requires.few)),
      );
    }

pub loop-place-init : goal.loop-place-init
loop-place-init c = record {
  from = c.requires.inside;
  inside = omega arith;
  are = sym (none_marked c.args.tags.now c.args.tag);
}

pub loop-place-preserved : goal.loop-place-preserved
loop-place-preserved c =
    let before = c.loop-place.place - 1 in
    let next : suc before ≡ c.loop-place.place = omega (arith, c.loop-place-test.true) in
    let more = one_more_mark c.args.tags.now c.args.tag before (omega (arith, next, c.loop-place.invariant.inside)) in
    let last : mask_l (map (λ t. t == c.args.tag) (drop (suc before) c.args.tags.now)) ≡ c.loop-place.marks =
    ap (λ k. mask_l (map (λ t. t == c.args.tag) (drop k c.args.tags.now))) next ∙ sym c.loop-place.invariant.are in
    record {
      from = omega (arith, c.loop-place-test.true);
      inside = omega (arith, c.loop-place.invariant.inside);
      are = omega (arith, more, last, c.from.ensures, bool_bit (slice_index c.args.tags.now before == c.args.tag));
    }

pub returns : goal.returns
returns c =
    c.loop-place.invariant.are ∙ ap (λ k. mask_l (map (λ t. t == c.args.tag) (drop k c.args.tags.now))) (omega (arith, c.loop-place-test.false, c.loop-place.invariant.from))
