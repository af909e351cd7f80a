-- A payload that is moved down over its frame's head.
use Rattle.std.proofs.Common.{◌≡◌, ℕ, ◌+◌, ◌-◌, ◌≤◌, List, ◌++◌, length, take, drop, sym, ◌∙◌, ap, arith, length-drop}
use Rattle.std.specs.List.{copy_within}
use lib.Seq.{paste}
use Rattle.std.proofs.lemmas.List.{take-take, drop-drop, drop-take}
use Rattle.std.proofs.lemmas.List.Edits.{take-paste, drop-paste}
use Rattle.websocket.specs.declared.protocol.frame.header.FrameHeader.{FrameHeader}
use Rattle.websocket.specs.FrameHeader.{header_len}
use Rattle.websocket.specs.Mask.{apply_mask_if}
use Rattle.relay_frames.specs.Reading.{payload_at}

-- it comes after what lay before its new place
pub moved_down : (old bytes payload : List ℕ) (start size to : ℕ) → to ≤ start → start + size ≤ length bytes → take start bytes ≡ take start old → take size (drop start bytes) ≡ payload
    → take (to + size) (copy_within bytes start (start + size) to) ≡ take to old ++ payload
moved_down old bytes payload start size to down inside before is =
    let whole : start + size - start ≡ size = omega arith in
    let front : take to bytes ≡ take to old = sym (take-take to start bytes down) ∙ ap (take to) before ∙ take-take to start old down in
    ap (λ n. take (to + size) (paste bytes to (drop start bytes) n)) whole
    ∙ take-paste bytes to (drop start bytes) size (omega (arith, down, inside)) (omega (arith, inside, length-drop start bytes))
    ∙ ap (λ xs. xs ++ take size (drop start bytes)) front
    ∙ ap (λ ys. take to old ++ ys) is

-- and what came after it stays
pub after_stays : (old bytes : List ℕ) (start size to : ℕ) → to ≤ start → start + size ≤ length bytes → drop (start + size) bytes ≡ drop (start + size) old
    → drop (start + size) (copy_within bytes start (start + size) to) ≡ drop (start + size) old
after_stays old bytes start size to down inside is =
    let whole : start + size - start ≡ size = omega arith in
    let gap = start - to in
    let far : to + size + gap ≡ start + size = omega (arith, down) in
    let moved = paste bytes to (drop start bytes) size in
    ap (λ n. drop (start + size) (paste bytes to (drop start bytes) n)) whole
    ∙ ap (λ k. drop k moved) (sym far)
    ∙ sym (drop-drop gap (to + size) moved)
    ∙ ap (drop gap) (drop-paste bytes to (drop start bytes) size (omega (arith, down, inside)) (omega (arith, inside, length-drop start bytes)))
    ∙ drop-drop gap (to + size) bytes
    ∙ ap (λ k. drop k bytes) far
    ∙ is

-- of bytes cut after a frame that is moved down, those up to its new end are the message
pub whole_message : (items cut moved : List ℕ) (h : FrameHeader) (n message read start : ℕ) → message ≤ read → start ≡ read + header_len h n → cut ≡ take (start + n) items
    → take (message + n) moved ≡ take message cut ++ apply_mask_if h.mask (take n (drop start cut))
    → take (message + n) moved ≡ take message items ++ payload_at (drop read items) h n
whole_message items cut moved h n message read start within at is same =
    let front : take message cut ≡ take message items = ap (take message) is ∙ take-take message (start + n) items (omega (arith, within, at)) in
    let after : drop start items ≡ drop (header_len h n) (drop read items) = ap (λ k. drop k items) at ∙ sym (drop-drop (header_len h n) read items) in
    let payload : take n (drop start cut) ≡ take n (drop (header_len h n) (drop read items)) =
    ap (λ xs. take n (drop start xs)) is ∙ ap (take n) (drop-take start n items) ∙ take-take n n (drop start items) (omega arith) ∙ ap (take n) after in
    same ∙ ap (λ xs. xs ++ apply_mask_if h.mask (take n (drop start cut))) front ∙ ap (λ ys. take message items ++ apply_mask_if h.mask ys) payload
