-- What is known of the boards looked at so far.
use Rattle.std.proofs.Common.{◌≡◌, take}
use Rattle.std.specs.List.{list_any}
use Rattle.relay_hall.specs.Keys.{is_owner}
use Rattle.relay_hall.proofs.boards.owns_any.Given as goal

abbrev pub invariant-loop-place : goal.invariant-loop-place
invariant-loop-place l = l.owns ≡ list_any (λ e. is_owner l.speaker.key e.1.owner.key) (take l.place l.boards.entries)
