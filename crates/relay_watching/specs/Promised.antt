-- What a spectator is promised: texts, their frames, and the bytes of these.
use Rattle.std.specs.Prelude.{ℕ, ◌+◌, List, [], ◌∷◌, ◌++◌, map, drop, Option, Some, None}
use Rattle.std.specs.List.{concat}
use Rattle.c960_board.specs.declared.parts.Parts.{Parts}
use Rattle.c960_board.specs.Moves.{Triple}
use Rattle.c960_game.specs.declared.outcome.Outcome.{Outcome}
use Rattle.relay_frames.specs.Frames.{text_frame, close_frame}
use Rattle.relay_watching.specs.Course.{Course}
use Rattle.relay_watching.specs.Texts.{following_answer, move_answer, over_answer}

-- ---- Texts.

-- how a spectator joins: at which place of the log, and which position it is told for that place
pub record Joining : Type 0 where
  pub place : ℕ
  pub position : Parts

-- the texts of moves: the first is at this place of the log, the others are at the places after it
abbrev pub move_texts : ℕ → List Triple → List (List ℕ)
move_texts place [] = []
move_texts place (m ∷ moves) = move_answer place m ∷ move_texts (place + 1) moves

-- the text of the end, once there is one
abbrev pub end_texts : Option Outcome → List (List ℕ)
end_texts None = []
end_texts (Some outcome) = over_answer outcome ∷ []

-- the answer to the joining, then each move of the log from there to the present, then the end
abbrev pub promised_texts : Course → Joining → List (List ℕ)
promised_texts c j = following_answer j.place j.position ∷ (move_texts j.place (drop j.place c.moves) ++ end_texts c.outcome)

-- ---- Frames, RFC 6455 section 5.2.

-- the close that says that everything was sent, section 7.4.1
abbrev pub done_frame : List ℕ
done_frame = close_frame (Some 1000)

-- the close comes after the end of the game
abbrev pub close_frames : Option Outcome → List (List ℕ)
close_frames None = []
close_frames (Some outcome) = done_frame ∷ []

-- each text in a frame of its own, and then the close
unfoldable pub promised_frames : Course → Joining → List (List ℕ)
promised_frames c j = map text_frame (promised_texts c j) ++ close_frames c.outcome

-- their bytes
abbrev pub promised : Course → Joining → List ℕ
promised c j = concat (promised_frames c j)
