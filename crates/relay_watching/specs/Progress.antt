-- How far a spectator was sent what it is promised.
use Rattle.std.specs.Prelude.{◌≡◌, ℕ, ◌+◌, ◌≤◌, List, [], ◌∷◌, ◌++◌, length, drop}
use Rattle.relay_frames.specs.Frames.{text_frame}
use Rattle.relay_watching.specs.Course.{Course}
use Rattle.relay_watching.specs.Promised.{Joining, promised}
use Rattle.relay_watching.specs.Taped.{tape_bytes, offset}
use Rattle.relay_watching.specs.Texts.{following_answer}

-- what is left of the greeting, which is the frame of the answer to its joining, and after how many bytes of the tape it is sent the rest
pub record Progress : Type 0 where
  pub left : List ℕ
  pub at : ℕ

-- of a spectator that joins in this way
abbrev pub newcomer : Course → Joining → Progress
newcomer c j = record { left = text_frame (following_answer j.place j.position); at = offset c j.place }

-- ---- What is due.

-- the bytes that have yet to be written: what is left of the greeting, then the tape
unfoldable pub due : Course → Progress → List ℕ
due c p = p.left ++ drop p.at (tape_bytes c)

-- those of them that lie together: the first of the two parts that has any
abbrev pub first_part : List ℕ → List ℕ → List ℕ
first_part [] rest = rest
first_part (x ∷ left) rest = x ∷ left

abbrev pub offered : Course → Progress → List ℕ
offered c p = first_part p.left (drop p.at (tape_bytes c))

-- the first n of these are written
abbrev pub moved_by : List ℕ → ℕ → ℕ → Progress
moved_by [] at n = record { left = []; at = at + n }
moved_by (x ∷ left) at n = record { left = drop n (x ∷ left); at = at }

abbrev pub after_write : Progress → ℕ → Progress
after_write p n = moved_by p.left p.at n

-- ---- The promise.

-- To a spectator that joined in this way these bytes were written. With what is due they are what it is promised.
pub record WasSent (c : Course) (j : Joining) (written : List ℕ) (p : Progress) : Type 0 where
  -- it joined within the log
  pub joined : j.place ≤ length c.moves
  -- it is on the tape, not before its joining place
  pub begun : offset c j.place ≤ p.at
  pub reached : p.at ≤ length (tape_bytes c)
  pub whole : written ++ due c p ≡ promised c j

-- If it is true before, it is true after: whatever was written stays a front part of what is promised.
abbrev pub GoesOn : Course → Course → Type 0
GoesOn c d = (j : Joining) (written : List ℕ) (p : Progress) → WasSent c j written p → WasSent d j written p
