-- What a connection that follows a board is sent behind its opening, piece by piece, and the frames that this is.
use Rattle.std.specs.Prelude.{ℕ, ◌+◌, List, [], ◌∷◌, ◌++◌, Option, Some, ⊤}
use Rattle.c960_board.specs.Moves.{Triple}
use Rattle.relay_core.specs.declared.reply.Taken.{Taken}
use Rattle.relay_core.specs.declared.reply.Taken.TheVariants as takes
use Rattle.relay_frames.specs.Frames.{close_frame, ping_frame, pong_frame, text_frame}
use Rattle.relay_pushing.specs.Pushing.{text_of}

pub data Piece : Type 0 where
  -- the move at this place of the log
  a_move : ℕ → Triple → Piece
  -- a pong with the bytes of its ping
  a_pong : List ℕ → Piece
  a_ping : Piece
  -- what tells of the end, and a close with this code
  an_end : Taken → ℕ → Piece
  -- a close with this code or none
  a_close : Option ℕ → Piece

-- the frame of a take's answer
abbrev pub frame_of : Taken → List ℕ
frame_of taken = text_frame (text_of taken)

abbrev pub frames_in : Piece → List ℕ
frames_in (a_move place m) = frame_of (takes.Move place m)
frames_in (a_pong bytes) = pong_frame bytes
frames_in a_ping = ping_frame []
frames_in (an_end taken code) = frame_of taken ++ close_frame (Some code)
frames_in (a_close number) = close_frame number

-- their frames, in order
abbrev pub frames_of : List Piece → List ℕ
frames_of [] = []
frames_of (p ∷ ps) = frames_in p ++ frames_of ps

-- the moves among them, with their places
abbrev pub moves_in : List Piece → List (ℕ × Triple)
moves_in [] = []
moves_in (a_move place m ∷ ps) = (place, m) ∷ moves_in ps
moves_in (a_pong bytes ∷ ps) = moves_in ps
moves_in (a_ping ∷ ps) = moves_in ps
moves_in (an_end taken code ∷ ps) = moves_in ps
moves_in (a_close number ∷ ps) = moves_in ps

-- none of them is an end or a close: more may come behind them
abbrev pub AllGoOn : List Piece → Type 0
AllGoOn [] = ⊤
AllGoOn (a_move place m ∷ ps) = AllGoOn ps
AllGoOn (a_pong bytes ∷ ps) = AllGoOn ps
AllGoOn (a_ping ∷ ps) = AllGoOn ps
AllGoOn (an_end taken code ∷ ps) = ⊥
AllGoOn (a_close number ∷ ps) = ⊥

-- moves, the first with this place, the others with the places that follow it
abbrev pub move_pieces : ℕ → List Triple → List Piece
move_pieces place [] = []
move_pieces place (m ∷ ms) = a_move place m ∷ move_pieces (place + 1) ms
