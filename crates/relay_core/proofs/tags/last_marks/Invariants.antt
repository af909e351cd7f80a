use Rattle.std.proofs.Common.{◌≡◌, ◌-◌, ◌≤◌, ◌==◌, length, map, drop}
use Rattle.std.specs.Simd.Lanes.{mask_l}
use Rattle.relay_core.proofs.tags.last_marks.Given as goal

abbrev pub invariant-loop-place : goal.invariant-loop-place
invariant-loop-place l = record {
  from : l.at ≤ l.place;
  inside : l.place ≤ length l.tags;
  are : l.marks ≡ mask_l (map (λ t. t == l.tag) (drop l.place l.tags));
}

-- proposed from the loop's first test
abbrev pub decreases-loop-place : goal.decreases-loop-place
decreases-loop-place l = l.place - l.at
