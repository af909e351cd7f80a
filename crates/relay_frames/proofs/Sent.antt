-- The bytes of a frame that is sent.
use Rattle.std.proofs.Common.{◌≡◌, ℕ, ◌<◌, List, [], ◌∷◌, ◌++◌, length, append_assoc, arith}
use Rattle.std.proofs.lemmas.Bool.Decides.{nat_tests}
use Rattle.websocket.specs.FrameHeader.{encode_header}
use Rattle.relay_frames.specs.Frames.{text_frame}

-- 129 says that the frame is a whole message and a text
short_text_frame : (bytes : List ℕ) → length bytes < 126 → text_frame bytes ≡ 129 ∷ length bytes ∷ bytes
unfolding text_frame encode_header
short_text_frame bytes short = grind (arith, nat_tests)

pub short_text_sent : (old bytes : List ℕ) → length bytes < 126
    → ((old ++ 129 ∷ []) ++ length bytes ∷ []) ++ bytes ≡ old ++ text_frame bytes
short_text_sent old bytes short = rw (short_text_frame bytes short) (simp append_assoc)
