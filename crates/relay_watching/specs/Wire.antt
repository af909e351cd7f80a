-- All the bytes that are written to a spectator's connection, including those of frames that are not promised.
use Rattle.std.specs.Prelude.{◌≡◌, true, is_some, ℕ, List, [], ◌∷◌, ◌++◌, map}
use Rattle.std.specs.List.{concat}
use Rattle.relay_watching.specs.Course.{Course}
use Rattle.relay_watching.specs.Promised.{Joining, promised_frames, done_frame}
use Rattle.relay_watching.specs.Progress.{Progress, due}

-- a frame: one that is promised, or another that is injected between them
pub data WireFrame : Type 0 where
  told : List ℕ → WireFrame
  other : List ℕ → WireFrame

abbrev pub bytes_of : WireFrame → List ℕ
bytes_of (told frame) = frame
bytes_of (other frame) = frame

-- the frames of either kind, in order
abbrev pub told_of : List WireFrame → List (List ℕ)
told_of [] = []
told_of (told frame ∷ frames) = frame ∷ told_of frames
told_of (other frame ∷ frames) = told_of frames

abbrev pub others_of : List WireFrame → List (List ℕ)
others_of [] = []
others_of (told frame ∷ frames) = others_of frames
others_of (other frame ∷ frames) = frame ∷ others_of frames

-- What was written, and then what is due, are whole frames: those that are promised and those that were injected, each once and each kind
-- in order. Once the game is over, the close is the last of them.
pub record IsWire (c : Course) (j : Joining) (wire : List ℕ) (p : Progress) (injections : List (List ℕ)) : Type 0 where
  pub frames : List WireFrame
  pub whole : wire ++ due c p ≡ concat (map bytes_of frames)
  pub promised : told_of frames ≡ promised_frames c j
  pub others : others_of frames ≡ injections
  pub closed : is_some c.outcome ≡ true → (before : List WireFrame) × (frames ≡ before ++ told done_frame ∷ [])
