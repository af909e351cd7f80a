-- What is written to a connection next, and its effect. A connection has output, which is whole frames, and may watch a board, whose
-- tape it is sent. Output is written before what is watched, but never within a frame of that.
use Rattle.std.specs.Prelude.{◌≡◌, ℕ, ◌≤◌, ◌==◌, ◌&&◌, ◌||◌, not, Bool, true, false, List, [], length, drop, Option, None, Some}
use Rattle.relay_watching.specs.Between.{is_between, is_none}
use Rattle.relay_watching.specs.Course.{Course}
use Rattle.relay_watching.specs.Progress.{after_write}
use Rattle.watch_port.specs.declared.watch_connection.Doing.{Doing}
use Rattle.watch_port.specs.declared.watch_connection.Doing.TheVariants.{Comes, Asks, Watches, WatchesAll}
use Rattle.watch_port.specs.declared.watch_connection.WatchConnection.{WatchConnection}
use Rattle.watch_port.specs.declared.watch_connection.Watching.{Watching}

-- what it watches, if it does
abbrev pub watched : Doing → Option Watching
watched (Comes head) = None
watched Asks = None
watched (Watches w) = Some w
watched (WatchesAll change) = None

-- a frame of what it watches is partly written, or the end of that is written: nothing may be written there but the rest of it
abbrev pub is_within : Course → Watching → Bool
is_within c w = w.has_begun && not (is_between c w.spectator)

-- there is no output, now or later
abbrev pub has_no_output : WatchConnection → Bool
has_no_output v = is_none v.output.items && not v.is_leaving

-- what it watches is written next: no output is partly written, and either a frame of it is or there is no output
abbrev pub is_tapes_turn : Course → WatchConnection → Watching → Bool
is_tapes_turn c v w = v.written == 0 && (is_within c w || has_no_output v)

-- the part of the output that has not been written
abbrev pub output_left : WatchConnection → List ℕ
output_left v = drop v.written v.output.items

-- it watches something, and that is written next
abbrev pub is_next_of : Course → WatchConnection → Option Watching → Bool
is_next_of c v None = false
is_next_of c v (Some w) = is_tapes_turn c v w

abbrev pub is_next : Course → WatchConnection → Bool
is_next c v = is_next_of c v (watched v.doing)

-- n bytes of the tape were written to a connection that watches
pub record HasWrittenTape (w : Watching) (n : ℕ) (old new : WatchConnection) : Type 0 where
  pub doing : new.doing ≡ Watches (record w { spectator = after_write w.spectator n; has_begun = true })
  pub output : new.output.items ≡ old.output.items
  pub written : new.written ≡ old.written
  pub leaving : new.is_leaving ≡ old.is_leaving

-- n bytes of the output were written
pub record HasWrittenOutput (n : ℕ) (old new : WatchConnection) : Type 0 where
  pub left : output_left new ≡ drop n (output_left old)
  -- what is written is not kept
  pub none : length (output_left old) ≤ n → new.output.items ≡ []
  pub begins : length (output_left old) ≤ n → new.written ≡ 0
  pub doing : new.doing ≡ old.doing
  pub leaving : new.is_leaving ≡ old.is_leaving
