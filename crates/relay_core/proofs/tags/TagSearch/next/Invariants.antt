use Rattle.std.proofs.Common.{◌≡◌, ◌-◌, length}
use Rattle.relay_core.specs.Inner.TagRow.{IsSearch}
use Rattle.relay_core.proofs.tags.TagSearch.next.Given as goal

abbrev pub invariant-loop-self : goal.invariant-loop-self
invariant-loop-self l = record {
  search : IsSearch l.tags l.tag l.self;
  from : l.self.from.value ≡ l.fn.self.from.value;
}

abbrev pub decreases-loop-self : goal.decreases-loop-self
decreases-loop-self l = length l.tags - l.self.ahead
