-- How the bytes of a peer are read: RFC 6455, sections 5.1 to 5.6, 7.4 and 8.1.
use Rattle.std.specs.Prelude.{ℕ, ◌≡◌, ◌+◌, ◌<◌, ⊤, Bool, true, false, cond, not, ◌||◌, ◌==◌, nat_lt, nat_le, List, [], ◌++◌, length, take, drop, Option, None, Some, is_some, Ok, Err}
use Rattle.std.specs.Int.{w16, from_be_bytes}
use Rattle.std.specs.Str.{is_utf8}
use Rattle.websocket.specs.declared.protocol.incomplete.MessageType.{MessageType}
use Rattle.websocket.specs.declared.protocol.incomplete.MessageType.TheVariants as kinds
use Rattle.websocket.specs.declared.protocol.frame.coding.OpCode.{OpCode}
use Rattle.websocket.specs.declared.protocol.frame.coding.OpCode.TheVariants as codes
use Rattle.websocket.specs.declared.protocol.frame.coding.Data.{Data}
use Rattle.websocket.specs.declared.protocol.frame.coding.Data.TheVariants.{Continue, Text, Binary}
use Rattle.websocket.specs.declared.protocol.frame.coding.Control.{Control}
use Rattle.websocket.specs.declared.protocol.frame.coding.Control.TheVariants.{Close, Ping, Pong}
use Rattle.websocket.specs.declared.protocol.frame.header.FrameHeader.{FrameHeader}
use Rattle.websocket.specs.FrameHeader.{Decoded, decode_header, header_len}
use Rattle.websocket.specs.Mask.{apply_mask_if}
use Rattle.relay_frames.specs.declared.breach.Breach.{Breach}
use Rattle.relay_frames.specs.declared.breach.Breach.TheVariants.{NoHead, ReservedBit, Unmasked, ControlInFragments, LongControl, NothingToContinue, MessageWithinMessage, BadClose, NotUtf8, TooLong, TooManyFragments}
use Rattle.relay_frames.specs.declared.peer.TheConstants.{MOST_BYTES, MOST_FRAGMENTS}
use Rattle.relay_frames.specs.Codes.{may_be_sent}
use Rattle.relay_frames.specs.Events.{Told, fragment, text, binary, ping, pong, closed, broken, is_last}

-- a message whose last fragment has yet to come
pub record Message : Type 0 where
  pub kind : MessageType
  pub bytes : List ℕ
  pub fragments : ℕ

-- what is known of a peer: the bytes from which no frame has been read yet, the message that has begun, and whether reading has ended
pub record Reading : Type 0 where
  pub unread : List ℕ
  pub begun : Option Message
  pub is_over : Bool

-- of a peer that has sent nothing yet
abbrev pub opened : Reading
opened = record { unread = []; begun = None; is_over = false }

-- of a peer whose connection has ended
abbrev pub over : Reading
over = record { unread = []; begun = None; is_over = true }

-- a frame or a message has begun, and its end has yet to come
abbrev pub is_midway : Reading → Bool
is_midway r = not (length r.unread == 0) || is_some r.begun

-- more bytes have come
abbrev pub fed : Reading → List ℕ → Reading
fed r bytes = cond r.is_over r (record r { unread = r.unread ++ bytes })

-- ---- the rules for a frame's head

-- a message of this many bytes, so far and with this frame; it may have MOST_BYTES, and MOST_FRAGMENTS fragments
abbrev pub size_breach : ℕ → ℕ → Option Breach
size_breach before n = cond (nat_lt MOST_BYTES (before + n)) (Some TooLong) None

-- section 5.5
abbrev pub control_breach : Bool → ℕ → Option Breach
control_breach is_final n = cond (not is_final) (Some ControlInFragments) (cond (nat_lt 125 n) (Some LongControl) None)

-- a further fragment of n bytes for this message
abbrev pub fragment_breach : Message → ℕ → Option Breach
fragment_breach m n = cond (nat_le MOST_FRAGMENTS m.fragments) (Some TooManyFragments) (size_breach (length m.bytes) n)

-- section 5.4
abbrev pub data_breach : Option Message → Data → ℕ → Option Breach
data_breach None Continue n = Some NothingToContinue
data_breach None Text n = size_breach 0 n
data_breach None Binary n = size_breach 0 n
data_breach (Some m) Continue n = fragment_breach m n
data_breach (Some m) Text n = Some MessageWithinMessage
data_breach (Some m) Binary n = Some MessageWithinMessage

abbrev pub opcode_breach : Option Message → OpCode → Bool → ℕ → Option Breach
opcode_breach begun (codes.Control control) is_final n = control_breach is_final n
opcode_breach begun (codes.Data kind) is_final n = data_breach begun kind n

-- the rule that a frame's head breaks, if its payload has n bytes
abbrev pub head_breach : Option Message → FrameHeader → ℕ → Option Breach
head_breach begun h n =
    cond (h.rsv1 || h.rsv2 || h.rsv3) (Some ReservedBit)
    (cond (not (is_some h.mask)) (Some Unmasked)
    (opcode_breach begun h.opcode h.is_final n))

-- ---- the meaning of a frame

-- the event of a frame, and the message that has begun after it
pub record Effect : Type 0 where
  pub told : Told
  pub begun : Option Message

-- the code before a close's reason
abbrev pub close_number : List ℕ → ℕ
close_number payload = from_be_bytes w16 payload

-- sections 5.5.1 and 7.4
unfoldable pub told_of_close : List ℕ → Told
told_of_close payload =
    cond (length payload == 0) (closed None)
    (cond (length payload == 1) (broken BadClose)
    (cond (not (may_be_sent (close_number payload))) (broken BadClose)
    (cond (not (is_utf8 (drop 2 payload))) (broken NotUtf8)
    (closed (Some (close_number payload))))))

abbrev pub told_of_control : Control → List ℕ → Told
told_of_control Ping payload = ping payload
told_of_control Pong payload = pong payload
told_of_control Close payload = told_of_close payload

-- a whole message, section 8.1
abbrev pub told_of_message : MessageType → List ℕ → Told
told_of_message kinds.Text bytes = cond (is_utf8 bytes) (text bytes) (broken NotUtf8)
told_of_message kinds.Binary bytes = binary bytes

-- the kind of a message that begins with this frame
abbrev pub kind_of : Data → MessageType
kind_of Binary = kinds.Binary
kind_of Text = kinds.Text
kind_of Continue = kinds.Text

-- the message that the frame begins or continues
abbrev pub with_payload : Option Message → Data → List ℕ → Message
with_payload None kind payload = record { kind = kind_of kind; bytes = payload; fragments = 1 }
with_payload (Some m) kind payload = record m { bytes = m.bytes ++ payload; fragments = m.fragments + 1 }

-- a message is reported when its last fragment has come
abbrev pub message_effect : Message → Bool → Effect
message_effect m is_final =
    cond is_final (record { told = told_of_message m.kind m.bytes; begun = None })
    (record { told = fragment; begun = Some m })

-- a control frame may come between the fragments of a message, section 5.4
abbrev pub frame_effect : Option Message → OpCode → Bool → List ℕ → Effect
frame_effect begun (codes.Control control) is_final payload = record { told = told_of_control control payload; begun = begun }
frame_effect begun (codes.Data kind) is_final payload = message_effect (with_payload begun kind payload) is_final

-- ---- reading

-- the next event, and what is known then
pub record Step : Type 0 where
  pub told : Option Told
  pub then : Reading

-- more bytes are waited for
abbrev pub waits : Reading → Step
waits r = record { told = None; then = r }

-- the peer broke the protocol, and nothing more is read
abbrev pub breaks : Breach → Step
breaks b = record { told = Some (broken b); then = over }

-- a frame was read, and these bytes follow it
abbrev pub goes_on : List ℕ → Effect → Step
goes_on rest e = record { told = Some e.told; then = cond (is_last e.told) over (record { unread = rest; begun = e.begun; is_over = false }) }

-- the event, and what is known then, are those of the step, or of the effect
abbrev pub IsStep : Told → Reading → Step → Type 0
IsStep t r s = (s.told ≡ Some t) × (r ≡ s.then)

abbrev pub IsEffect : Told → Option Message → Effect → Type 0
IsEffect t begun e = (t ≡ e.told) × (begun ≡ e.begun)

-- a message that has begun accepts one more fragment
abbrev pub HasRoom : Option Message → OpCode → Type 0
HasRoom None op = ⊤
HasRoom (Some m) (codes.Control control) = ⊤
HasRoom (Some m) (codes.Data kind) = m.fragments < MOST_FRAGMENTS

-- the payload of n bytes after the head
abbrev pub payload_at : List ℕ → FrameHeader → ℕ → List ℕ
payload_at bytes h n = apply_mask_if h.mask (take n (drop (header_len h n) bytes))

-- the frame's head keeps the rules: is the frame whole?
abbrev pub read_frame : Reading → FrameHeader → ℕ → Step
read_frame r h n =
    cond (nat_lt (length r.unread) (header_len h n + n)) (waits r)
    (goes_on (drop (header_len h n + n) r.unread) (frame_effect r.begun h.opcode h.is_final (payload_at r.unread h n)))

abbrev pub read_checked : Reading → FrameHeader → ℕ → Option Breach → Step
read_checked r h n (Some b) = breaks b
read_checked r h n None = read_frame r h n

abbrev pub read_head : Reading → Decoded (FrameHeader × ℕ) → Step
read_head r (Err e) = breaks NoHead
read_head r (Ok None) = waits r
read_head r (Ok (Some p)) = read_checked r p.0 p.1 (head_breach r.begun p.0 p.1)

-- a breach is reported as soon as the head has come, and anything else when the frame is complete
unfoldable pub next_step : Reading → Step
next_step r = cond r.is_over (waits r) (read_head r (decode_header r.unread))
