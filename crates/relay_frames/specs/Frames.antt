-- The frames that a server sends: whole messages without a mask, RFC 6455 sections 5.1, 5.2 and 5.5.
use Rattle.std.specs.Prelude.{ℕ, List, [], Option, None, Some}
use Rattle.std.specs.Int.{w16, to_be_bytes}
use Rattle.websocket.specs.declared.protocol.frame.coding.OpCode.TheVariants.{Data, Control}
use Rattle.websocket.specs.declared.protocol.frame.coding.Data.TheVariants.{Text}
use Rattle.websocket.specs.declared.protocol.frame.coding.Control.TheVariants.{Close, Ping, Pong}
use Rattle.websocket.specs.Connection.{whole_header}
use Rattle.websocket.specs.Frame.{encode_frame}
use Rattle.relay_frames.specs.Breaches.{code_of}
use Rattle.relay_frames.specs.Events.{Told, fragment, text, binary, ping, pong, closed, broken}

unfoldable pub text_frame : List ℕ → List ℕ
text_frame bytes = encode_frame (whole_header (Data Text) None) bytes

unfoldable pub ping_frame : List ℕ → List ℕ
ping_frame bytes = encode_frame (whole_header (Control Ping) None) bytes

unfoldable pub pong_frame : List ℕ → List ℕ
pong_frame bytes = encode_frame (whole_header (Control Pong) None) bytes

-- the code is the payload's first two bytes, section 5.5.1
abbrev pub close_payload : Option ℕ → List ℕ
close_payload None = []
close_payload (Some number) = to_be_bytes w16 number

unfoldable pub close_frame : Option ℕ → List ℕ
close_frame number = encode_frame (whole_header (Control Close) None) (close_payload number)

-- the frame that is due after an event, sections 5.5.1, 5.5.2 and 7.1.7
abbrev pub answer_of : Told → Option (List ℕ)
answer_of fragment = None
answer_of (text _) = None
answer_of (binary _) = None
answer_of (ping bytes) = Some (pong_frame bytes)
answer_of (pong _) = None
answer_of (closed number) = Some (close_frame number)
answer_of (broken breach) = Some (close_frame (Some (code_of breach)))
