-- What is read from the frames that a client writes, RFC 6455 section 5.2.
use Rattle.std.specs.Prelude.{ℕ, false, List, Option, None, Some}
use Rattle.websocket.specs.declared.protocol.frame.header.FrameHeader.{FrameHeader}
use Rattle.relay_frames.specs.declared.breach.Breach.{Breach}
use Rattle.relay_frames.specs.Reading.{Message, Reading, Step, breaks, goes_on, frame_effect}

-- these bytes have come, after a part of a message or none
abbrev pub behind_bytes : Option Message → List ℕ → Reading
behind_bytes begun bytes = record { unread = bytes; begun = begun; is_over = false }

-- a frame with this head and this payload: the rule that its head breaks, or what it means
abbrev pub read_written : Option Message → FrameHeader → List ℕ → List ℕ → Option Breach → Step
read_written begun h payload rest (Some b) = breaks b
read_written begun h payload rest None = goes_on rest (frame_effect begun h.opcode h.is_final payload)
