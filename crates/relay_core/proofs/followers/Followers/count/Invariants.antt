use Rattle.std.proofs.Common.{◌≡◌, ◌+◌, ◌<◌, ◌≤◌, ◌-◌, count_by, length, take}
use Rattle.relay_core.specs.Name.{same_name}
use Rattle.relay_core.specs.Inner.Tag.{tag_of}
use Rattle.relay_core.specs.Inner.TagRow.{IsSearch}
use Rattle.relay_core.proofs.followers.Followers.count.Given as goal

abbrev pub invariant-loop-i : goal.invariant-loop-i
invariant-loop-i l = record {
  inside : l.i ≤ length l.self-inside.tags.items;
  search : IsSearch l.self-inside.tags.items (tag_of l.fn.board) l.search;
  on : l.i < length l.self-inside.tags.items → l.search.from.value ≡ l.i + 1;
  so_far : l.count ≡ count_by (λ e. same_name l.fn.board e.1.board) (take l.i l.initial.self-inside.seats.entries);
  few : l.count ≤ l.i;
}

abbrev pub decreases-loop-i : goal.decreases-loop-i
decreases-loop-i l = length l.self-inside.tags.items - l.i
