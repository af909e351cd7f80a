-- A frame that a client wrote is read as that frame.
use Rattle.std.proofs.Common.{◌≡◌, ℕ, ◌+◌, List, [], ◌++◌, append-nil, length, Option, None, Some, refl, ◌∙◌, arith, length-append, append_assoc}
use Rattle.std.proofs.lemmas.List.{drop_at, take_at}
use Rattle.websocket.specs.declared.protocol.frame.header.FrameHeader.{FrameHeader}
use Rattle.websocket.specs.FrameHeader.{encode_header, header_len, IsHeader}
use Rattle.websocket.specs.Frame.{encode_frame}
use Rattle.websocket.specs.Mask.{apply_mask_if}
use Rattle.websocket.proofs.DecodeLemmas.{ltb_false}
use Rattle.websocket.proofs.MaskLemmas.{length-apply_mask_if, apply_mask_if-apply_mask_if}
use Rattle.websocket.proofs.FrameHeaderLemmas.{length-encode_header, decode_header-encode_header}
use Rattle.websocket.proofs.FrameLemmas.{length-encode_frame}
use Rattle.relay_frames.specs.declared.breach.Breach.{Breach}
use Rattle.relay_frames.specs.Reading.{Message, head_breach, breaks, payload_at, read_checked, next_step}
use Rattle.relay_frames.specs.Writing.{behind_bytes, read_written}

header_read : (begun : Option Message) (h : FrameHeader) (n : ℕ) (rest : List ℕ) → IsHeader h n
    → next_step (behind_bytes begun (encode_header h n ++ rest)) ≡ read_checked (behind_bytes begun (encode_header h n ++ rest)) h n (head_breach begun h n)
unfolding next_step
header_read begun h n rest valid = rw (decode_header-encode_header h n rest valid) refl

payload_written : (h : FrameHeader) (payload rest : List ℕ) → IsHeader h (length payload) → payload_at (encode_frame h payload ++ rest) h (length payload) ≡ payload
payload_written h payload rest valid =
    let n = length payload in
    let masked = apply_mask_if h.mask payload in
    rw (
      append_assoc (encode_header h n) masked rest,
      drop_at (encode_header h n) (masked ++ rest) (header_len h n) (length-encode_header h n valid.mask),
      take_at masked rest n (length-apply_mask_if h.mask payload),
      apply_mask_if-apply_mask_if h.mask payload,
    ) refl

written_checked : (begun : Option Message) (h : FrameHeader) (payload rest : List ℕ) → IsHeader h (length payload) → (b : Option Breach)
    → read_checked (behind_bytes begun (encode_frame h payload ++ rest)) h (length payload) b ≡ read_written begun h payload rest b
written_checked begun h payload rest valid (Some b) = refl
written_checked begun h payload rest valid None =
    let n = length payload in
    let size = length-encode_frame h payload valid in
    rw (
      ltb_false (length (encode_frame h payload ++ rest)) (header_len h n + n) (omega (arith, length-append (encode_frame h payload) rest, size)),
      payload_written h payload rest valid,
      drop_at (encode_frame h payload) rest (header_len h n + n) size,
    ) refl

-- what a frame says is read from its bytes, whatever follows it
pub written_is_read : (begun : Option Message) (h : FrameHeader) (payload rest : List ℕ) → IsHeader h (length payload)
    → next_step (behind_bytes begun (encode_frame h payload ++ rest)) ≡ read_written begun h payload rest (head_breach begun h (length payload))
written_is_read begun h payload rest valid =
    let n = length payload in
    let split = append_assoc (encode_header h n) (apply_mask_if h.mask payload) rest in
    rw split (header_read begun h n (apply_mask_if h.mask payload ++ rest) valid)
    ∙ written_checked begun h payload rest valid (head_breach begun h n)

-- a head that breaks a rule is reported before its payload has come
pub breach_is_told : (begun : Option Message) (h : FrameHeader) (n : ℕ) (b : Breach) → IsHeader h n → head_breach begun h n ≡ Some b
    → next_step (behind_bytes begun (encode_header h n)) ≡ breaks b
breach_is_told begun h n b valid breach =
    rw append-nil at (header_read begun h n [] valid) ∙ rw breach refl
