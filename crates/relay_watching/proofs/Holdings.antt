-- What a tape keeps, frame by frame.
use Rattle.std.proofs.Common.{◌≡◌, ℕ, zero, suc, ◌+◌, ◌-◌, ◌<◌, ◌≤◌, List, [], ◌∷◌, ◌++◌, length, get_or, take, None, Result, Ok, Err, is_ok, Decides, true, MatchResult, refl, sym, ap, ◌∙◌, ◌⊎◌, arith, append_assoc, append-nil, inl, inr}
use Rattle.std.specs.List.{concat}
use Rattle.std.proofs.lemmas.List.{take-append-le, take-take, take_all, get_or_append_left, get_or_push, length_push}
use Rattle.std.proofs.lemmas.Bool.Decides.{leb_tells, same_from_decides}
use Rattle.std.proofs.lemmas.List.Folds.{concat-append}
use Rattle.relay_watching.specs.Course.{Course, opened, with_move, with_outcome}
use Rattle.relay_frames.specs.Frames.{text_frame}
use Rattle.relay_watching.specs.Inner.TapeFields.{Holds}
use Rattle.relay_watching.specs.Between.{is_end}
use Rattle.relay_watching.specs.Promised.{done_frame}
use Rattle.relay_watching.specs.Taped.{tape_frames, tape_bytes, offset}
use Rattle.c960_board.specs.Moves.{Triple}
use Rattle.c960_game.specs.declared.outcome.Outcome.{Outcome}
use Rattle.relay_watching.specs.Texts.{move_answer, over_answer}
use Rattle.relay_watching.proofs.Promises.{move_continues, end_continues, ends_within}
use Rattle.relay_watching.proofs.Boundaries.{IsEnd, is_end_decides}

end_more : (frames : List (List ℕ)) (bytes ends f : List ℕ) (k : ℕ) → Holds frames bytes ends → (k < length frames) ⊎ (k ≡ length frames)
    → get_or (ends ++ length (bytes ++ f) ∷ []) k 0 ≡ length (concat (take (k + 1) (frames ++ f ∷ [])))
end_more frames bytes ends f k held (inl before) =
    let stands : k < length ends = omega (arith, held.counted) in
    let within : k + 1 ≤ length frames = omega arith in
    rw (take-append-le (k + 1) frames (f ∷ []) within, get_or_append_left ends (length (bytes ++ f) ∷ []) 0 k stands) (held.ended k before)
end_more frames bytes ends f k held (inr last) =
    let whole : length (frames ++ f ∷ []) ≤ k + 1 = omega (arith, length_push frames f) in
    let stands : length ends ≡ k = omega (arith, held.counted) in
    rw (take_all (k + 1) (frames ++ f ∷ []) whole, get_or_push ends (length (bytes ++ f)) 0 k stands, concat-append frames (f ∷ []), append-nil, held.joined) refl

cases : (k n : ℕ) → k < n + 1 → (k < n) ⊎ (k ≡ n)
cases k n within = elim (leb_tells n k) [ inl p ↦ inr (let from : n ≤ k = p.1 in omega arith) | inr p ↦ inl p.1 ]

-- one more frame
pub holds_more : (frames : List (List ℕ)) (bytes ends f : List ℕ) → Holds frames bytes ends
    → Holds (frames ++ f ∷ []) (bytes ++ f) (ends ++ length (bytes ++ f) ∷ [])
holds_more frames bytes ends f held = record {
  joined = rw (concat-append frames (f ∷ []), append-nil, held.joined) refl;
  counted = omega (arith, length_push frames f, length_push ends (length (bytes ++ f)), held.counted);
  ended = λ k within. end_more frames bytes ends f k held (cases k (length frames) (omega (arith, length_push frames f)));
}

pub kept_new : Holds (tape_frames opened) [] []
unfolding tape_frames
kept_new = record { joined = refl; counted = refl; ended = λ k within. absurd (omega arith) }

pub kept_move : (c : Course) (m : Triple) (bytes ends frame : List ℕ) → c.outcome ≡ None → Holds (tape_frames c) bytes ends
    → frame ≡ text_frame (move_answer (length c.moves) m)
    → Holds (tape_frames (with_move c m)) (bytes ++ frame) (ends ++ length (bytes ++ frame) ∷ [])
kept_move c m bytes ends frame going held is =
    rw ((move_continues c m going).frames, ← is) (holds_more (tape_frames c) bytes ends frame held)

pub kept_end : (c : Course) (o : Outcome) (bytes ends over : List ℕ) → c.outcome ≡ None → Holds (tape_frames c) bytes ends
    → over ≡ text_frame (over_answer o)
    → Holds (tape_frames (with_outcome c o)) ((bytes ++ over) ++ done_frame)
    ((ends ++ length (bytes ++ over) ∷ []) ++ length ((bytes ++ over) ++ done_frame) ∷ [])
kept_end c o bytes ends over going held is =
    let two = holds_more (tape_frames c ++ over ∷ []) (bytes ++ over) (ends ++ length (bytes ++ over) ∷ []) done_frame
    (holds_more (tape_frames c) bytes ends over held) in
    rw ((end_continues c o going).frames, ← is, ← append_assoc (tape_frames c) (over ∷ []) (done_frame ∷ [])) two

-- where the frame of a place begins
pub offset_kept : (c : Course) (bytes ends : List ℕ) (place : ℕ) → Holds (tape_frames c) bytes ends → place ≤ length (tape_frames c) → 0 < place
    → get_or ends (place - 1) 0 ≡ offset c place
offset_kept c bytes ends place held within some =
    let here : place - 1 < length (tape_frames c) = omega arith in
    let next : place - 1 + 1 ≡ place = omega arith in
    held.ended (place - 1) here ∙ ap (λ k. length (concat (take k (tape_frames c)))) next

-- ---- Where frames end.

pub ends_rise : (frames : List (List ℕ)) (bytes ends : List ℕ) → Holds frames bytes ends → (i j : ℕ) → i ≤ j → j < length ends → get_or ends i 0 ≤ get_or ends j 0
ends_rise frames bytes ends held i j before within =
    let same : take (i + 1) (take (j + 1) frames) ≡ take (i + 1) frames = take-take (i + 1) (j + 1) frames (omega arith) in
    let low = rw same at (ends_within (i + 1) (take (j + 1) frames)) in
    rw (held.ended i (omega (arith, held.counted)), held.ended j (omega (arith, held.counted))) low

no_end_found : (c : Course) (bytes ends : List ℕ) (at i k : ℕ) → Holds (tape_frames c) bytes ends → ¬ (at ≡ 0)
    → ((j : ℕ) → j < i → get_or ends j 0 < at) → ((j : ℕ) → i ≤ j → j < length ends → at < get_or ends j 0)
    → k ≤ length (tape_frames c) → at ≡ length (concat (take k (tape_frames c))) → ⊥
no_end_found c bytes ends at i zero held some low high within is = some is
no_end_found c bytes ends at i (suc j) held some low high within is =
    let next : j + 1 ≡ suc j = omega arith in
    let here : get_or ends j 0 ≡ at = held.ended j (omega arith) ∙ ap (λ n. length (concat (take n (tape_frames c)))) next ∙ sym is in
    elim (leb_tells i j) [
      | inl p ↦ (let over = high j p.1 (omega (arith, held.counted)) in omega arith)
      | inr p ↦ (let under = low j p.1 in omega arith)
    ]

found_decides : (c : Course) (bytes ends : List ℕ) (at : ℕ) (r : Result ℕ ℕ) → Holds (tape_frames c) bytes ends → ¬ (at ≡ 0)
    → MatchResult r (λ i. (i < length ends) × (get_or ends i 0 ≡ at))
    (λ i. (i ≤ length ends) × ((k : ℕ) → k < i → get_or ends k 0 < at) × ((k : ℕ) → i ≤ k → k < length ends → at < get_or ends k 0))
    → Decides (is_ok r) (IsEnd c at)
found_decides c bytes ends at (Ok i) held some found =
    (λ _. (i + 1, omega (arith, held.counted, found.0), sym found.1 ∙ held.ended i (omega (arith, held.counted, found.0))), λ _. refl)
found_decides c bytes ends at (Err i) held some found =
    (λ no. absurd (cc no), λ (k, within, is). absurd (no_end_found c bytes ends at i k held some found.1 found.2 within is))

pub found_end : (c : Course) (bytes ends : List ℕ) (at : ℕ) (r : Result ℕ ℕ) → Holds (tape_frames c) bytes ends → ¬ (at ≡ 0)
    → MatchResult r (λ i. (i < length ends) × (get_or ends i 0 ≡ at))
    (λ i. (i ≤ length ends) × ((k : ℕ) → k < i → get_or ends k 0 < at) × ((k : ℕ) → i ≤ k → k < length ends → at < get_or ends k 0))
    → is_ok r ≡ is_end c at
found_end c bytes ends at r held some found =
    same_from_decides (is_ok r) (is_end c at) (found_decides c bytes ends at r held some found) (is_end_decides c at)

-- where the first frame begins
pub end_first : (c : Course) (at : ℕ) → at ≡ 0 → is_end c at ≡ true
end_first c at is = (is_end_decides c at).1 (zero, omega arith, is)

-- where the last frame ends
pub end_last : (c : Course) (at : ℕ) → at ≡ length (tape_bytes c) → is_end c at ≡ true
end_last c at is =
    let all : take (length (tape_frames c)) (tape_frames c) ≡ tape_frames c = take_all (length (tape_frames c)) (tape_frames c) (omega arith) in
    (is_end_decides c at).1 (length (tape_frames c), omega arith, is ∙ ap (λ frames. length (concat frames)) (sym all))
