-- What a tape keeps. Only the code uses it: no clause of a public call names it.
use Rattle.std.specs.Prelude.{◌≡◌, ℕ, ◌+◌, ◌<◌, List, length, take, slice_index}
use Rattle.std.specs.List.{concat}
use Rattle.relay_watching.specs.declared.tape.Tape.TheInside.{Inside}
use Rattle.relay_watching.specs.Course.{Course}
use Rattle.relay_watching.specs.Taped.{tape_frames}

abbrev pub course_of : Inside → Course
course_of a = record { moves = a.moves.items; outcome = a.outcome }

-- the bytes are those of the frames, and these are the places where the frames end
pub record Holds (frames : List (List ℕ)) (bytes ends : List ℕ) : Type 0 where
  pub joined : bytes ≡ concat frames
  pub counted : length ends ≡ length frames
  pub ended : (k : ℕ) → k < length frames → slice_index ends k ≡ length (concat (take (k + 1) frames))

abbrev pub IsKept : Inside → Type 0
IsKept a = Holds (tape_frames (course_of a)) a.bytes.items a.ends.items
