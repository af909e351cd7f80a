-- What is on the tape of a board.
use Rattle.std.specs.Prelude.{ℕ, List, ◌++◌, map, length, take}
use Rattle.std.specs.List.{concat}
use Rattle.relay_frames.specs.Frames.{text_frame}
use Rattle.relay_watching.specs.Course.{Course}
use Rattle.relay_watching.specs.Promised.{move_texts, end_texts, close_frames}

-- the frames of all moves, and then of the end and the close
unfoldable pub tape_frames : Course → List (List ℕ)
tape_frames c = map text_frame (move_texts 0 c.moves ++ end_texts c.outcome) ++ close_frames c.outcome

abbrev pub tape_bytes : Course → List ℕ
tape_bytes c = concat (tape_frames c)

-- after how many bytes the frame of a place begins
abbrev pub offset : Course → ℕ → ℕ
offset c place = length (concat (take place (tape_frames c)))
