-- Bytes as the kit's own reader reads them, frame by frame (RFC 6455, section 5.2).
use Rattle.std.specs.Prelude.{◌≡◌, ℕ, ◌<◌, ◌^◌, List, [], ◌∷◌, ◌++◌, map, length, drop, Option, Some, None, Ok, ⊤}
use Rattle.std.specs.Int.{w16, to_be_bytes}
use Rattle.httparse.specs.Spans.{span_bytes}
use Rattle.websocket.specs.declared.protocol.frame.codec.FrameStatus.TheVariants.{Complete}
use Rattle.websocket.specs.declared.protocol.frame.codec.RawFrame.{RawFrame}
use Rattle.websocket.specs.declared.protocol.frame.coding.OpCode.{OpCode}
use Rattle.websocket.specs.declared.protocol.frame.coding.OpCode.TheVariants.{Data, Control}
use Rattle.websocket.specs.declared.protocol.frame.coding.Data.TheVariants.{Text}
use Rattle.websocket.specs.declared.protocol.frame.coding.Control.TheVariants.{Close}
use Rattle.websocket.specs.Connection.{whole_header}
use Rattle.websocket.specs.Frame.{decode_frame}
use Rattle.c960_game.specs.declared.outcome.Outcome.{Outcome}
use Rattle.relay_watching.specs.Course.{Course}
use Rattle.relay_watching.specs.Promised.{Joining, promised_texts}

-- a whole message: its kind and its payload
abbrev pub Message : Type 0
Message = OpCode × List ℕ

abbrev pub text_message : List ℕ → Message
text_message text = (Data Text, text)

-- a close whose code is 1000
abbrev pub close_messages : Option Outcome → List Message
close_messages None = []
close_messages (Some outcome) = (Control Close, to_be_bytes w16 1000) ∷ []

abbrev pub promised_messages : Course → Joining → List Message
promised_messages c j = map text_message (promised_texts c j) ++ close_messages c.outcome

-- the bytes begin with an unmasked frame that is this message, and these bytes follow it
pub record BeginsWith (bytes : List ℕ) (m : Message) (rest : List ℕ) : Type 0 where
  pub frame : RawFrame
  pub found : decode_frame None bytes ≡ Ok (Complete frame)
  pub header : frame.header ≡ whole_header m.0 None
  pub payload : span_bytes bytes frame.payload ≡ m.1
  pub behind : drop frame.payload.end bytes ≡ rest

-- the bytes are read as these messages, one after another, to their end
abbrev pub AreRead : List ℕ → List Message → Type 0
AreRead bytes [] = bytes ≡ []
AreRead bytes (m ∷ messages) = (rest : List ℕ) × BeginsWith bytes m rest × AreRead rest messages

-- each is shorter than 2^63 bytes, as is the longest frame
abbrev pub AreShort : List (List ℕ) → Type 0
AreShort [] = ⊤
AreShort (text ∷ texts) = (length text < 2 ^ 63) × AreShort texts
