use Rattle.std.proofs.Common.{◌≡◌, ℕ, ◌<◌, true, false}
use Rattle.c960_board.specs.Sets.{is_in}
use Rattle.c960_rules.specs.Inner.Pins.{HasOthers, blockers}
use Rattle.c960_rules.proofs.pins.pinned.Given as goal

abbrev pub invariant-loop-left : goal.invariant-loop-left
invariant-loop-left l =
    (s : ℕ) → s < 64 → is_in l.sliders s ≡ true → is_in l.left s ≡ false → HasOthers (blockers l.king l.occupied s) l.pinned

abbrev pub decreases-loop-left : goal.decreases-loop-left
decreases-loop-left l = l.left
