-- what is noted of the boards before this place is kept
use Rattle.std.proofs.Common.{◌≡◌, ℕ, List, map, take}
use Rattle.relay_journal.specs.Kept.{KeptBoard, kept_of}
use Rattle.relay_journal.specs.Scribes.{noted_of}
use Rattle.relay_journal.proofs.noted.keep_noted.Given as goal

abbrev pub invariant-loop-at : goal.invariant-loop-at
invariant-loop-at l = l.noted.items ≡ map (λ (e : List ℕ × KeptBoard). noted_of e.1) (take l.at (kept_of l.hall.floor))
