-- One step of reading, before more bytes.
use Rattle.std.proofs.Common.{◌≡◌, ◌≢◌, ℕ, ◌+◌, ◌<◌, ◌≤◌, Bool, true, false, cond, List, [], ◌∷◌, ◌++◌, length, take, drop, Option, None, Some, Ok, Err, refl, ◌∙◌, ap, arith, length-append, length-drop, inl, inr}
use Rattle.std.specs.Prelude.{is_some}
use Rattle.std.proofs.lemmas.List.{drop-append-le, length-take-le, take-append-le}
use Rattle.std.proofs.lemmas.Bool.Decides.{leb_tells}
use Rattle.websocket.specs.declared.protocol.frame.header.FrameHeader.{FrameHeader}
use Rattle.websocket.specs.FrameHeader.{Decoded, decode_header, header_len}
use Rattle.websocket.specs.Mask.{apply_mask_if}
use Rattle.websocket.proofs.DecodeLemmas.{ltb_false, ltb_true}
use Rattle.websocket.proofs.FrameHeaderLemmas.{decode_header-append}
use Rattle.websocket.proofs.MaskLemmas.{length-apply_mask_if}
use Rattle.relay_frames.specs.declared.breach.Breach.{Breach}
use Rattle.relay_frames.specs.declared.breach.Breach.TheVariants.{NoHead}
use Rattle.relay_frames.specs.declared.peer.TheConstants.{MOST_BYTES, MOST_FRAGMENTS}
use Rattle.relay_frames.specs.Events.{Told, broken, is_last}
use Rattle.relay_frames.specs.Reading.{Message, Reading, Effect, Step, over, fed, head_breach, frame_effect, waits, breaks, goes_on, payload_at, read_frame, read_head, next_step}
use Rattle.relay_frames.specs.Hearing.{IsSmall, bytes_of, fragments_of}
use Rattle.relay_frames.proofs.Heads.{header_short, header_len_short}
use Rattle.relay_frames.proofs.Rules.{effect_kept, payload_kept, place_kept}

-- what is kept of a message is within its bounds, and nothing is kept once the connection has ended
pub record Fits (r : Reading) : Type 0 where
  pub message : bytes_of r.begun ≤ MOST_BYTES
  pub fragments : fragments_of r.begun ≤ MOST_FRAGMENTS
  pub ended : r.is_over ≡ true → r.unread ≡ []

over_fits : Fits over
over_fits = record { message = omega arith; fragments = omega arith; ended = λ _. refl }

-- a step that gives an event
abbrev pub tells : Told → Reading → Step
tells t next = record { told = Some t; then = next }

-- the event took bytes, nothing is read after the last, and with more bytes it is the same
pub record Follows (r : Reading) (t : Told) (next : Reading) : Type 0 where
  pub shorter : length next.unread < length r.unread
  pub last : is_last t ≡ true → next ≡ over
  pub same : (more : List ℕ) → next_step (fed r more) ≡ tells t (fed next more)
  pub fits : Fits r → Fits next

-- a step waits or gives an event
pub data Steps (r : Reading) : Type 0 where
  waited : next_step r ≡ waits r → (Fits r → IsSmall r) → Steps r
  told : (t : Told) (next : Reading) → next_step r ≡ tells t next → Follows r t next → Steps r

-- of a peer whose connection has not ended
abbrev pub live : List ℕ → Option Message → Reading
live bs begun = record { unread = bs; begun = begun; is_over = false }

-- bytes after which no more are waited for are not empty
not_empty : (bs : List ℕ) → decode_header bs ≢ Ok None → 0 < length bs
unfolding decode_header
not_empty [] some = absurd (some refl)
not_empty (b ∷ bs) some = omega arith

live_step : (bs : List ℕ) (begun : Option Message) (d : Decoded (FrameHeader × ℕ)) → decode_header bs ≡ d → next_step (live bs begun) ≡ read_head (live bs begun) d
unfolding next_step
live_step bs begun d is = rw is refl

broke : (bs : List ℕ) (begun : Option Message) (b : Breach) → decode_header bs ≢ Ok None → next_step (live bs begun) ≡ breaks b
    → ((more : List ℕ) → next_step (live (bs ++ more) begun) ≡ breaks b) → Steps (live bs begun)
broke bs begun b some is same =
    told (broken b) over is (record { shorter = not_empty bs some; last = λ _. refl; same = same; fits = λ _. over_fits })

-- what is known after a frame
abbrev behind_frame : List ℕ → Effect → Reading
behind_frame rest e = (goes_on rest e).then

behind_more : (rest more : List ℕ) (e : Effect) → behind_frame (rest ++ more) e ≡ fed (behind_frame rest e) more
behind_more rest more e =
    elim (is_last e.told) as (λ b. cond b over (live (rest ++ more) e.begun) ≡ fed (cond b over (live rest e.begun)) more) [
      | true ↦ refl
      | false ↦ refl
    ]

behind_shorter : (n : ℕ) (rest : List ℕ) (e : Effect) → length rest < n → length (behind_frame rest e).unread < n
behind_shorter n rest e short =
    elim (is_last e.told) as (λ b. length (cond b over (live rest e.begun)).unread < n) [
      | true ↦ omega (arith, short)
      | false ↦ short
    ]

behind_fits : (rest : List ℕ) (e : Effect) → (bytes_of e.begun ≤ MOST_BYTES) × (fragments_of e.begun ≤ MOST_FRAGMENTS) → Fits (behind_frame rest e)
behind_fits rest e kept =
    elim (is_last e.told) as (λ b. Fits (cond b over (live rest e.begun))) [
      | true ↦ over_fits
      | false ↦ record { message = kept.0; fragments = kept.1; ended = λ k. absurd (cc k) }
    ]

length-payload_at : (bs : List ℕ) (h : FrameHeader) (n : ℕ) → header_len h n + n ≤ length bs → length (payload_at bs h n) ≡ n
length-payload_at bs h n whole =
    length-apply_mask_if h.mask (take n (drop (header_len h n) bs))
    ∙ length-take-le n (drop (header_len h n) bs) (omega (arith, length-drop (header_len h n) bs))

payload_more : (bs more : List ℕ) (h : FrameHeader) (n : ℕ) → header_len h n + n ≤ length bs → payload_at (bs ++ more) h n ≡ payload_at bs h n
payload_more bs more h n whole =
    ap (apply_mask_if h.mask)
    (rw (
      drop-append-le (header_len h n) bs more (omega arith),
      take-append-le n (drop (header_len h n) bs) more (omega (arith, length-drop (header_len h n) bs)),
    ) refl)

whole_frame : (bs : List ℕ) (begun : Option Message) (h : FrameHeader) (n : ℕ) → header_len h n + n ≤ length bs
    → read_frame (live bs begun) h n ≡ goes_on (drop (header_len h n + n) bs) (frame_effect begun h.opcode h.is_final (payload_at bs h n))
whole_frame bs begun h n whole = rw (ltb_false (length bs) (header_len h n + n) whole) refl

framed : (bs : List ℕ) (begun : Option Message) (h : FrameHeader) (n : ℕ) → head_breach begun h n ≡ None → header_len h n + n ≤ length bs → next_step (live bs begun) ≡ read_frame (live bs begun) h n
    → ((more : List ℕ) → next_step (live (bs ++ more) begun) ≡ read_frame (live (bs ++ more) begun) h n) → Steps (live bs begun)
framed bs begun h n kept whole is more_is =
    let k = header_len h n + n in
    let e = frame_effect begun h.opcode h.is_final (payload_at bs h n) in
    told e.told (behind_frame (drop k bs) e) (is ∙ whole_frame bs begun h n whole) (record {
      shorter = behind_shorter (length bs) (drop k bs) e (omega (arith, length-drop k bs));
      last = λ ends. rw ends refl;
      same = λ more.
          more_is more ∙ whole_frame (bs ++ more) begun h n (omega (arith, length-append bs more))
          ∙ rw (payload_more bs more h n whole, drop-append-le k bs more whole, behind_more (drop k bs) more e) refl;
      fits = λ f.
          behind_fits (drop k bs) e
          (effect_kept begun h.opcode h.is_final (payload_at bs h n) (rw (length-payload_at bs h n whole) (place_kept begun h n kept)) (f.message, f.fragments));
    })

cut_small : (bs : List ℕ) (begun : Option Message) (h : FrameHeader) (n : ℕ) → head_breach begun h n ≡ None → length bs < header_len h n + n → Fits (live bs begun) → IsSmall (live bs begun)
cut_small bs begun h n kept short f =
    record {
      message = f.message;
      fragments = f.fragments;
      kept = omega (arith, short, header_len_short n (is_some h.mask), payload_kept begun h.opcode h.is_final n (place_kept begun h n kept) f.message);
    }

headless_small : (bs : List ℕ) (begun : Option Message) → length bs < 14 → Fits (live bs begun) → IsSmall (live bs begun)
headless_small bs begun short f = record { message = f.message; fragments = f.fragments; kept = omega (arith, short, f.message) }

ended_small : (bs : List ℕ) (begun : Option Message) → Fits (record { unread = bs; begun = begun; is_over = true }) → IsSmall (record { unread = bs; begun = begun; is_over = true })
ended_small bs begun f =
    let none : length bs ≡ 0 = ap length (f.ended refl) in
    record { message = f.message; fragments = f.fragments; kept = omega (arith, none, f.message) }

checked_steps : (bs : List ℕ) (begun : Option Message) (h : FrameHeader) (n : ℕ) → decode_header bs ≡ Ok (Some (h, n)) → (b : Option Breach) → head_breach begun h n ≡ b → Steps (live bs begun)
checked_steps bs begun h n is (Some b) breach =
    let some : decode_header bs ≢ Ok None = λ k. cc (is, k) in
    broke bs begun b some (live_step bs begun _ is ∙ rw breach refl)
    (λ more. live_step (bs ++ more) begun _ (decode_header-append bs more some ∙ is) ∙ rw breach refl)
checked_steps bs begun h n is None breach =
    let some : decode_header bs ≢ Ok None = λ k. cc (is, k) in
    elim (leb_tells (header_len h n + n) (length bs)) [
      | inl p ↦
          framed bs begun h n breach p.1 (live_step bs begun _ is ∙ rw breach refl)
          (λ more. live_step (bs ++ more) begun _ (decode_header-append bs more some ∙ is) ∙ rw breach refl)
      | inr p ↦ waited (live_step bs begun _ is ∙ rw (breach, ltb_true (length bs) (header_len h n + n) p.1) refl) (cut_small bs begun h n breach p.1)
    ]

head_steps : (bs : List ℕ) (begun : Option Message) (d : Decoded (FrameHeader × ℕ)) → decode_header bs ≡ d → Steps (live bs begun)
head_steps bs begun (Ok None) is = waited (live_step bs begun _ is) (headless_small bs begun (header_short bs is))
head_steps bs begun (Ok (Some p)) is = checked_steps bs begun p.0 p.1 is (head_breach begun p.0 p.1) refl
head_steps bs begun (Err e) is =
    let some : decode_header bs ≢ Ok None = λ k. cc (is, k) in
    broke bs begun NoHead some (live_step bs begun _ is) (λ more. live_step (bs ++ more) begun _ (decode_header-append bs more some ∙ is))

steps_of : (bs : List ℕ) (begun : Option Message) (is_over : Bool) → Steps (record { unread = bs; begun = begun; is_over = is_over })
unfolding next_step
steps_of bs begun true = waited refl (ended_small bs begun)
steps_of bs begun false = head_steps bs begun (decode_header bs) refl

pub steps : (r : Reading) → Steps r
steps r = steps_of r.unread r.begun r.is_over
