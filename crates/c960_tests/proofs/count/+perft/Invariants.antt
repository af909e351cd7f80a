-- The sum is that of the moves gone through; the plies fall with each call.
use Rattle.std.proofs.Common.{◌≡◌, ◌-◌, take}
use Rattle.std.specs.List.{sum_by}
use Rattle.c960_rules.specs.After.{after}
use Rattle.c960_tests.specs.Perft.{perft}
use Rattle.c960_tests.proofs.count.+perft.Given as goal

abbrev pub decreases-perft : goal.decreases-perft
decreases-perft l = l.plies

abbrev pub invariant-loop-m : goal.invariant-loop-m
invariant-loop-m l = l.sum ≡ sum_by (λ m. perft (l.plies - 1) (after l.lawful m)) (take l.m-index l.m-items)
