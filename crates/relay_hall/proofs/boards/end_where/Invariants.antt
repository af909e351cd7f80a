-- The boards before the index are as they are to be, and a history leads to all of them.
use Rattle.std.proofs.Common.{◌≡◌, length}
use Rattle.std.specs.HashMap.{spare}
use Rattle.c960_game.specs.Limits.{LimitNumbers}
use Rattle.relay_core.proofs.lemmas.Lists.{done_up_to}
use Rattle.relay_core.specs.Held.Stands.{IsKept}
use Rattle.relay_hall.specs.Hosting.{abandoned_by, held_by}
use Rattle.relay_hall.proofs.boards.end_where.Given as goal

abbrev pub invariant-loop-at : goal.invariant-loop-at
invariant-loop-at g l = record {
  done : l.boards.entries ≡ done_up_to (abandoned_by (g.L.Leaver.gone l.left)) l.at l.initial.boards.entries;
  kept : (limits : LimitNumbers) → IsKept (held_by limits l.initial.boards.entries) → IsKept (held_by limits l.boards.entries);
  room : spare l.boards ≡ spare l.initial.boards;
  counted : length l.boards.entries ≡ length l.initial.boards.entries;
}
