-- What a session makes of a message, and of a follow.
use Rattle.std.specs.Prelude.{◌≡◌, ℕ, List, Option, None, Some}
use Rattle.relay_messages.specs.Answers.{answer_text}
use Rattle.relay_messages.specs.declared.answer.Answer.TheVariants.{Fault}
use Rattle.relay_messages.specs.declared.fault.MessageFault.TheVariants.{NotJson}
use Rattle.relay_pushing.specs.Connections.{Answered}
use Rattle.relay_pushing.specs.Pushing.{Pushed}
use Rattle.relay_pushing.specs.declared.pushing.PushEnd.{PushEnd}
use Rattle.relay_pushing.specs.declared.pushing.PushEnd.TheVariants as pushes
use Rattle.relay_hall.specs.declared.handed.Handed.{Handed}
use Rattle.relay_hall.specs.Taking.{Gives}
use Rattle.tungstenite.specs.Connection.{write_step}
use Rattle.tungstenite.specs.Content.{text as text_of}
use Rattle.tungstenite.specs.Socket.{Socket, Writes}
use Rattle.relay_server.specs.declared.ends.SessionEnd.{SessionEnd}
use Rattle.relay_server.specs.declared.ends.SessionEnd.TheVariants as ends
use Rattle.relay_server.specs.Shared.{KeeperMakes, KeeperState, Tells}

-- these bytes answer a text of a connection that has opened these boards, or a message that is no text
abbrev pub IsAnswer : Option (List ℕ) → List (List ℕ) → KeeperState → List ℕ → List (List ℕ) → KeeperState → Type 0
IsAnswer (Some text) opened k bytes boards after = Answered Tells KeeperMakes opened k text bytes boards after
IsAnswer None opened k bytes boards after = (bytes ≡ answer_text (Fault NotJson)) × (boards ≡ opened) × (after ≡ k)

-- a message is answered by one text, which is written to its socket
pub record IsAnswered {S : Type 0} (contents : S → Option (List ℕ)) (message : Option (List ℕ)) (opened : List (List ℕ)) (k : KeeperState) (old : Socket S) (boards : List (List ℕ)) (after : KeeperState) (new : Socket S) : Type 0 where
  pub bytes : List ℕ
  pub answer : IsAnswer message opened k bytes boards after
  pub written : Writes contents old new (write_step old.conn (text_of bytes))

-- how a session ends whose pushing ended so
abbrev pub session_end : PushEnd → SessionEnd
session_end (pushes.Over outcome) = ends.Over
session_end pushes.Cut = ends.Cut
session_end (pushes.Failed fault) = ends.Failed

-- the follower that was handed out took and its outlet was handed what `push_all` says, and the session ended so
pub record IsPushed (h : Handed) (ended : SessionEnd) : Type 0 where
  pub left : Handed
  pub end : PushEnd
  pub pushed : Pushed Gives h left None None end
  pub ended_so : ended ≡ session_end end
