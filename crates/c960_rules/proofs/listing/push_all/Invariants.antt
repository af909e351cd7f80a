use Rattle.std.proofs.Common.{◌≡◌, ◌++◌}
use Rattle.c960_rules.specs.Lines.{squares}
use Rattle.c960_rules.specs.Inner.Listing.{one_plain, stretches_in}
use Rattle.c960_rules.proofs.listing.push_all.Given as goal

abbrev pub invariant-loop-left : goal.invariant-loop-left
invariant-loop-left l =
    l.moves.items ++ stretches_in (one_plain l.from) l.left squares
    ≡ l.initial.moves.items ++ stretches_in (one_plain l.from) l.goals squares

abbrev pub decreases-loop-left : goal.decreases-loop-left
decreases-loop-left l = l.left
