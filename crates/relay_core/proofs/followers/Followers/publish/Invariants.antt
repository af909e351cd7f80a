use Rattle.std.proofs.Common.{◌≡◌, ◌++◌, ◌+◌, ◌<◌, ◌≤◌, ◌-◌, take, drop, length}
use Rattle.std.specs.HashMap.{spare}
use Rattle.relay_core.specs.Held.Followers.{published}
use Rattle.relay_core.specs.Inner.Seating.{IsSeating}
use Rattle.relay_core.specs.Inner.Tag.{tag_of}
use Rattle.relay_core.specs.Inner.TagRow.{IsSearch}
use Rattle.relay_core.proofs.followers.Followers.publish.Given as goal

abbrev pub invariant-loop-i : goal.invariant-loop-i
invariant-loop-i l = record {
  inside : l.i ≤ length l.self-inside.tags.items;
  search : IsSearch l.self-inside.tags.items (tag_of l.fn.board) l.search;
  on : l.i < length l.self-inside.tags.items → l.search.from.value ≡ l.i + 1;
  done : l.self-inside.seats.entries
      ≡ published l.fn.board l.place l.m (take l.i l.initial.self-inside.seats.entries) ++ drop l.i l.initial.self-inside.seats.entries;
  same : length l.self-inside.seats.entries ≡ length l.initial.self-inside.seats.entries;
  tags : l.self-inside.tags ≡ l.initial.self-inside.tags;
  order : l.self-inside.order.spectators ≡ l.initial.self-inside.order.spectators;
  seating : IsSeating l.self-inside.order.spectators l.self-inside.tags.items l.self-inside.seats.entries;
  room : spare l.self-inside.seats ≡ spare l.initial.self-inside.seats;
}

abbrev pub decreases-loop-i : goal.decreases-loop-i
decreases-loop-i l = length l.self-inside.tags.items - l.i
