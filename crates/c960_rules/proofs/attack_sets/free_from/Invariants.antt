use Rattle.c960_rules.specs.Inner.Wheres.{is_free}
use Rattle.c960_rules.proofs.WhereFacts.{IsFiltered}
use Rattle.c960_rules.proofs.attack_sets.free_from.Given as goal

abbrev pub invariant-loop-left : goal.invariant-loop-left
invariant-loop-left l = IsFiltered (λ s. is_free l.occupied l.square s) l.set l.left l.found

abbrev pub decreases-loop-left : goal.decreases-loop-left
decreases-loop-left l = l.left
