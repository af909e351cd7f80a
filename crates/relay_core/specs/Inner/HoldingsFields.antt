-- What a relay on one thread shows of its fields, and that its map of boards has enough room.
use Rattle.std.specs.Prelude.{◌+◌, ◌≤◌, length}
use Rattle.relay_core.specs.declared.holdings.Holdings.TheInside.{Inside}
use Rattle.relay_core.specs.Held.{Held, plain}
use Rattle.relay_core.specs.Held.Room.{Holding}

abbrev pub held_of : Inside → Held
held_of a = record { limits = a.limits; boards = a.boards.entries; followers = a.followers.entries }

abbrev pub holding_of : Inside → Holding
holding_of a = record {
  shown = plain (held_of a);
  room = record { boards = a.boards.room; followers = a.followers.room };
}

-- as many boards as the limits allow fit without further memory
abbrev pub HasRoom : Inside → Type 0
HasRoom a = a.limits.boards ≤ length a.boards.entries + a.boards.room
