-- Where a frame that is not promised, such as a pong, may be written to a spectator.
use Rattle.std.specs.Prelude.{◌≡◌, ℕ, ◌+◌, ◌==◌, ◌&&◌, ◌||◌, not, nat_le, is_some, ◌≢◌, Bool, true, false, List, [], ◌∷◌, ◌++◌, length}
use Rattle.std.specs.List.{concat}
use Rattle.relay_watching.specs.Course.{Course}
use Rattle.relay_watching.specs.Promised.{Joining, promised_frames}
use Rattle.relay_watching.specs.Progress.{Progress}
use Rattle.relay_watching.specs.Taped.{tape_frames, tape_bytes}

-- whether one of these frames begins or the last one ends after this many bytes, if the first begins after n
abbrev pub ends_at : ℕ → ℕ → List (List ℕ) → Bool
ends_at at n [] = at == n
ends_at at n (frame ∷ frames) = at == n || ends_at at (n + length frame) frames

abbrev pub is_end : Course → ℕ → Bool
is_end c at = ends_at at 0 (tape_frames c)

abbrev pub is_none : List ℕ → Bool
is_none [] = true
is_none (x ∷ left) = false

-- the close lies within the first `at` bytes
abbrev pub is_closed : Course → ℕ → Bool
is_closed c at = is_some c.outcome && nat_le (length (tape_bytes c)) at

-- the greeting is written, no frame of the tape is partly written, and the close is not written
unfoldable pub is_between : Course → Progress → Bool
is_between c p = is_none p.left && (is_end c p.at && not (is_closed c p.at))

-- What was written are the first of the frames that are promised, each of them whole. After the end of the game some have yet to
-- come, so that the close is among these.
pub record IsWhole (c : Course) (j : Joining) (written : List ℕ) : Type 0 where
  pub sent : List (List ℕ)
  pub rest : List (List ℕ)
  pub all : sent ++ rest ≡ promised_frames c j
  pub whole : written ≡ concat sent
  pub open_still : is_some c.outcome ≡ true → rest ≢ []
