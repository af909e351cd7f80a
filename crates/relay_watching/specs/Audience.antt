-- A board and any number of spectators, whatever happens.
use Rattle.std.specs.Prelude.{ℕ, zero, suc, nat_le, cond, is_some, List, [], ◌∷◌, ◌++◌, length, take, ⊤}
use Rattle.c960_board.specs.Moves.{Triple}
use Rattle.c960_game.specs.declared.outcome.Outcome.{Outcome}
use Rattle.relay_watching.specs.Between.{is_between}
use Rattle.relay_watching.specs.Course.{Course, opened, with_move, with_outcome}
use Rattle.relay_watching.specs.Progress.{Progress, WasSent, newcomer, offered, after_write}
use Rattle.relay_watching.specs.Promised.{Joining}
use Rattle.relay_watching.specs.Wire.{IsWire}

-- a spectator: how it joined; what was written to it of what it is promised, and in all; the other frames written to it; how far it was
-- sent
pub record Spectator : Type 0 where
  pub joining : Joining
  pub written : List ℕ
  pub wire : List ℕ
  pub others : List (List ℕ)
  pub progress : Progress

pub record Audience : Type 0 where
  pub course : Course
  pub spectators : List Spectator

abbrev pub nobody_yet : Audience
nobody_yet = record { course = opened; spectators = [] }

-- a spectator is named by its index, in the order of joining
pub data Happening : Type 0 where
  moved : Triple → Happening
  ended : Outcome → Happening
  joined : Joining → Happening
  -- n of the bytes offered are written
  wrote : ℕ → ℕ → Happening
  -- another frame is written
  injected : ℕ → List ℕ → Happening

-- ---- What happens to one spectator.

abbrev pub new_spectator : Course → Joining → Spectator
new_spectator c j = record { joining = j; written = []; wire = []; others = []; progress = newcomer c j }

-- these bytes, the first n of those offered, are written
abbrev pub with_bytes : List ℕ → ℕ → Spectator → Spectator
with_bytes bytes n s = record s { written = s.written ++ bytes; wire = s.wire ++ bytes; progress = after_write s.progress n }

-- no more bytes are written than are offered
abbrev pub after_wrote : Course → ℕ → Spectator → Spectator
after_wrote c n s = cond (nat_le n (length (offered c s.progress))) (with_bytes (take n (offered c s.progress)) n s) s

-- another frame is written only between frames
abbrev pub after_injected : Course → List ℕ → Spectator → Spectator
after_injected c frame s = cond (is_between c s.progress) (record s { wire = s.wire ++ frame; others = s.others ++ frame ∷ [] }) s

-- what is done to one of them
abbrev pub with_one : (Spectator → Spectator) → ℕ → List Spectator → List Spectator
with_one f who [] = []
with_one f zero (s ∷ spectators) = f s ∷ spectators
with_one f (suc who) (s ∷ spectators) = s ∷ with_one f who spectators

-- ---- All that happens.

-- what is impossible changes nothing: a move or an end after the end, a place beyond the log
abbrev pub after : Audience → Happening → Audience
after a (moved m) = cond (is_some a.course.outcome) a (record a { course = with_move a.course m })
after a (ended o) = cond (is_some a.course.outcome) a (record a { course = with_outcome a.course o })
after a (joined j) =
    cond (nat_le j.place (length a.course.moves)) (record a { spectators = a.spectators ++ new_spectator a.course j ∷ [] }) a
after a (wrote who n) = record a { spectators = with_one (after_wrote a.course n) who a.spectators }
after a (injected who frame) = record a { spectators = with_one (after_injected a.course frame) who a.spectators }

abbrev pub after_all : Audience → List Happening → Audience
after_all a [] = a
after_all a (x ∷ xs) = after_all (after a x) xs

-- ---- What is true then.

pub record IsServed (c : Course) (s : Spectator) : Type 0 where
  pub sent : WasSent c s.joining s.written s.progress
  pub wire : IsWire c s.joining s.wire s.progress s.others

abbrev pub AreServed : Course → List Spectator → Type 0
AreServed c [] = ⊤
AreServed c (s ∷ spectators) = IsServed c s × AreServed c spectators

abbrev pub EachIsServed : Audience → Type 0
EachIsServed a = AreServed a.course a.spectators
