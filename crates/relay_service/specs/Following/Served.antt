-- What a connection that follows a board is sent.
use Rattle.std.specs.Prelude.{◌≡◌, ◌⊎◌, ◌≤◌, ℕ, List, [], ◌∷◌, ◌++◌, length, Option}
use Rattle.c960_board.specs.Moves.{Triple}
use Rattle.c960_game.specs.Positions.{last_position}
use Rattle.relay_core.specs.Stretch.{placed}
use Rattle.relay_core.specs.declared.reply.Reply.TheVariants.{Following}
use Rattle.relay_core.specs.declared.reply.Taken.TheVariants as takes
use Rattle.relay_frames.specs.Frames.{text_frame}
use Rattle.relay_messages.specs.Answers.{answer_text}
use Rattle.relay_messages.specs.declared.answer.Answer.TheVariants.{Reply}
use Rattle.live_board.specs.declared.view.Part.{Part}
use Rattle.relay_service.specs.declared.following.stage.Stage.{Stage}
use Rattle.relay_service.specs.declared.following.stage.Stage.TheVariants.{Follows, Over, Cut, Left, Failed}
use Rattle.relay_service.specs.Following.Pieces.{AllGoOn, Piece, a_close, an_end, frames_of, moves_in}
use Rattle.relay_service.specs.Following.Record.{DeliveryRecord}

-- the last of these bytes are the frame of the reply that tells where a connection joined: this place, and the position after these moves
-- of a game from this start
pub record EndsInJoining (bytes : List ℕ) (joined start : ℕ) (before : List Triple) : Type 0 where
  pub earlier : List ℕ
  pub told : bytes ≡ earlier ++ text_frame (answer_text (Reply (Following joined (last_position start before))))

-- the same, of this follower
abbrev pub IsOpening : List ℕ → Part → Type 0
IsOpening bytes p = EndsInJoining bytes p.joined p.setup.start p.before

-- moves were taken and not put: at most one, and only for lack of memory
abbrev pub IsLost : Stage → List Triple → Type 0
IsLost Follows lost = lost ≡ []
IsLost (Over outcome) lost = lost ≡ []
IsLost Cut lost = lost ≡ []
IsLost Left lost = lost ≡ []
IsLost Failed lost = length lost ≤ 1

-- The last piece, behind all that go on. The end of the game is closed with 1000, or with 1001 if the server goes; one that was cut off is
-- closed with 4001; and one that left may have been closed, if there was memory for that.
abbrev pub IsLast : Stage → List Piece → Type 0
IsLast Follows last = last ≡ []
IsLast (Over outcome) last = (code : ℕ) × ((code ≡ 1000) ⊎ (code ≡ 1001)) × (last ≡ an_end (takes.Over outcome) code ∷ [])
IsLast Cut last = last ≡ an_end takes.Cut 4001 ∷ []
IsLast Left last = (last ≡ []) ⊎ ((number : Option ℕ) × (last ≡ a_close number ∷ []))
IsLast Failed last = last ≡ []

-- What was sent and then what is due: the opening, which tells where its follower joined, and the frames of the pieces. The moves among
-- these are those that its follower has taken from there on, each once and in order. Behind the end or a close there is nothing.
pub record IsServed (c : DeliveryRecord) : Type 0 where
  pub told : IsOpening c.opening c.follower.part
  pub bytes : c.sent ++ c.due ≡ c.opening ++ frames_of c.pieces
  pub moves : List Triple
  pub lost : List Triple
  pub taken : c.follower.part.taken ≡ moves ++ lost
  pub few : IsLost c.stage lost
  pub moves_are : moves_in c.pieces ≡ placed c.follower.part.joined moves
  pub before : List Piece
  pub last : List Piece
  pub pieces_are : c.pieces ≡ before ++ last
  pub go_on : AllGoOn before
  pub ended : IsLast c.stage last
