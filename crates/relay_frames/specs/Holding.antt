-- How a peer's bytes are held: a message in fragments so far, and what has not been read yet.
use Rattle.std.specs.Prelude.{ℕ, ◌≡◌, ◌+◌, ⊤, List, [], Option, None, Some}
use Rattle.websocket.specs.declared.protocol.incomplete.MessageType.{MessageType}
use Rattle.websocket.specs.declared.protocol.frame.coding.Data.{Data}
use Rattle.relay_frames.specs.Reading.{Message, kind_of}

-- the message's bytes so far, unmasked, and the bytes from which no frame has been read yet
pub record Held : Type 0 where
  pub message : List ℕ
  pub unread : List ℕ

-- what is known of a message besides its bytes
pub record Beginning : Type 0 where
  pub kind : MessageType
  pub fragments : ℕ

abbrev pub message_of : List ℕ → Beginning → Message
message_of bytes b = record { kind = b.kind; bytes = bytes; fragments = b.fragments }

abbrev pub begun_of : List ℕ → Option Beginning → Option Message
begun_of bytes None = None
begun_of bytes (Some b) = Some (message_of bytes b)

-- if no message has begun, there are no bytes of one
abbrev pub HasNoStray : List ℕ → Option Beginning → Type 0
HasNoStray bytes None = bytes ≡ []
HasNoStray bytes (Some b) = ⊤

-- with one more fragment, which begins a message if none has begun
abbrev pub continued : Option Message → Data → Beginning
continued None kind = record { kind = kind_of kind; fragments = 1 }
continued (Some m) kind = record { kind = m.kind; fragments = m.fragments + 1 }

-- of a message's end, the end of what was read, and the length and the room of the vector: no room is kept if no bytes are held
abbrev pub HasNoIdleRoom : ℕ → ℕ → ℕ → ℕ → Type 0
HasNoIdleRoom message read len room = message ≡ 0 → read ≡ len → room ≡ 0
