-- What a head that keeps the rules says of its frame.
use Rattle.std.proofs.Common.{◌≡◌, ℕ, ◌+◌, ◌<◌, ◌≤◌, Bool, true, false, cond, not, ◌||◌, nat_lt, nat_le, List, length, length-append, Option, None, Some, refl, arith}
use Rattle.std.specs.Prelude.{is_some}
use Rattle.std.proofs.lemmas.Bool.Decides.{nat_tests}
use Rattle.websocket.specs.declared.protocol.frame.coding.OpCode.{OpCode}
use Rattle.websocket.specs.declared.protocol.frame.coding.OpCode.TheVariants as codes
use Rattle.websocket.specs.declared.protocol.frame.coding.Data.{Data}
use Rattle.websocket.specs.declared.protocol.frame.coding.Data.TheVariants.{Continue, Text, Binary}
use Rattle.websocket.specs.declared.protocol.frame.header.FrameHeader.{FrameHeader}
use Rattle.relay_frames.specs.declared.breach.Breach.{Breach}
use Rattle.relay_frames.specs.declared.breach.Breach.TheVariants.{ReservedBit, Unmasked}
use Rattle.relay_frames.specs.declared.peer.TheConstants.{MOST_BYTES, MOST_FRAGMENTS}
use Rattle.relay_frames.specs.Reading.{Message, HasRoom, size_breach, control_breach, fragment_breach, data_breach, opcode_breach, head_breach, with_payload, frame_effect}
use Rattle.relay_frames.specs.Hearing.{bytes_of, fragments_of}

-- a rule that was not broken
passed : (b : Bool) (x : Breach) (o : Option Breach) → cond b (Some x) o ≡ None → (b ≡ false) × (o ≡ None)
passed true x o is = absurd (cc is)
passed false x o is = (refl, is)

size_kept : (before n : ℕ) → size_breach before n ≡ None → before + n ≤ MOST_BYTES
size_kept before n is =
    let fits : nat_lt MOST_BYTES (before + n) ≡ false = (passed _ _ _ is).0 in
    grind (arith, nat_tests)

control_kept : (is_final : Bool) (n : ℕ) → control_breach is_final n ≡ None → n ≤ 125
control_kept is_final n is =
    let fits : nat_lt 125 n ≡ false = (passed _ _ _ (passed _ _ _ is).1).0 in
    grind (arith, nat_tests)

fragment_kept : (m : Message) (n : ℕ) → fragment_breach m n ≡ None → (length m.bytes + n ≤ MOST_BYTES) × (m.fragments < MOST_FRAGMENTS)
fragment_kept m n is =
    let few : nat_le MOST_FRAGMENTS m.fragments ≡ false = (passed _ _ _ is).0 in
    (size_kept (length m.bytes) n (passed _ _ _ is).1, grind (arith, nat_tests))

opcode_kept : (begun : Option Message) (op : OpCode) (is_final : Bool) (n : ℕ) → opcode_breach begun op is_final n ≡ None → (n ≤ MOST_BYTES) × HasRoom begun op
opcode_kept None (codes.Control control) is_final n is = (omega (arith, control_kept is_final n is), tt)
opcode_kept (Some m) (codes.Control control) is_final n is = (omega (arith, control_kept is_final n is), tt)
opcode_kept None (codes.Data Continue) is_final n is = absurd (cc is)
opcode_kept None (codes.Data Text) is_final n is = (omega (arith, size_kept 0 n is), tt)
opcode_kept None (codes.Data Binary) is_final n is = (omega (arith, size_kept 0 n is), tt)
opcode_kept (Some m) (codes.Data Continue) is_final n is =
    let kept = fragment_kept m n is in
    (omega (arith, kept.0), kept.1)
opcode_kept (Some m) (codes.Data Text) is_final n is = absurd (cc is)
opcode_kept (Some m) (codes.Data Binary) is_final n is = absurd (cc is)

-- the rules of its place are kept
pub place_kept : (begun : Option Message) (h : FrameHeader) (n : ℕ) → head_breach begun h n ≡ None → opcode_breach begun h.opcode h.is_final n ≡ None
place_kept begun h n is =
    let by_place = opcode_breach begun h.opcode h.is_final n in
    let plain = passed (h.rsv1 || h.rsv2 || h.rsv3) ReservedBit (cond (not (is_some h.mask)) (Some Unmasked) by_place) is in
    (passed (not (is_some h.mask)) Unmasked by_place plain.1).1

-- its payload is within a message's bound, and the message accepts it
pub head_kept : (begun : Option Message) (h : FrameHeader) (n : ℕ) → head_breach begun h n ≡ None → (n ≤ MOST_BYTES) × HasRoom begun h.opcode
head_kept begun h n is = opcode_kept begun h.opcode h.is_final n (place_kept begun h n is)

-- with what has come of the message its payload is within the bound, or that of a control frame
pub payload_kept : (begun : Option Message) (op : OpCode) (is_final : Bool) (n : ℕ) → opcode_breach begun op is_final n ≡ None → bytes_of begun ≤ MOST_BYTES → n + bytes_of begun ≤ MOST_BYTES + 125
payload_kept begun (codes.Control control) is_final n is fits = omega (arith, control_kept is_final n is, fits)
payload_kept None (codes.Data Continue) is_final n is fits = absurd (cc is)
payload_kept None (codes.Data Text) is_final n is fits = omega (arith, size_kept 0 n is)
payload_kept None (codes.Data Binary) is_final n is fits = omega (arith, size_kept 0 n is)
payload_kept (Some m) (codes.Data Continue) is_final n is fits =
    let kept = fragment_kept m n is in
    omega (arith, kept.0)
payload_kept (Some m) (codes.Data Text) is_final n is fits = absurd (cc is)
payload_kept (Some m) (codes.Data Binary) is_final n is fits = absurd (cc is)

-- and so is the message with it
with_payload_kept : (begun : Option Message) (kind : Data) (payload : List ℕ) → data_breach begun kind (length payload) ≡ None
    → (length (with_payload begun kind payload).bytes ≤ MOST_BYTES) × ((with_payload begun kind payload).fragments ≤ MOST_FRAGMENTS)
with_payload_kept None Continue payload is = absurd (cc is)
with_payload_kept None Text payload is = (omega (arith, size_kept 0 (length payload) is), omega arith)
with_payload_kept None Binary payload is = (omega (arith, size_kept 0 (length payload) is), omega arith)
with_payload_kept (Some m) Continue payload is =
    let kept = fragment_kept m (length payload) is in
    (omega (arith, kept.0, length-append m.bytes payload), omega (arith, kept.1))
with_payload_kept (Some m) Text payload is = absurd (cc is)
with_payload_kept (Some m) Binary payload is = absurd (cc is)

-- for a message that goes on
abbrev IsWithin : Option Message → Type 0
IsWithin begun = (bytes_of begun ≤ MOST_BYTES) × (fragments_of begun ≤ MOST_FRAGMENTS)

pub effect_kept : (begun : Option Message) (op : OpCode) (is_final : Bool) (payload : List ℕ) → opcode_breach begun op is_final (length payload) ≡ None
    → IsWithin begun → IsWithin (frame_effect begun op is_final payload).begun
effect_kept begun (codes.Control control) is_final payload is fits = fits
effect_kept begun (codes.Data kind) true payload is fits = (omega arith, omega arith)
effect_kept begun (codes.Data kind) false payload is fits = with_payload_kept begun kind payload is
