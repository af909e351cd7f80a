-- If no frame is partly written, what was written are whole frames.
use Rattle.std.proofs.Common.{◌≡◌, ℕ, zero, suc, ◌+◌, ◌-◌, ◌≤◌, ◌==◌, ◌&&◌, not, leb, is_some, Bool, true, false, Decides, List, [], ◌∷◌, ◌++◌, length, take, drop, refl, sym, ap, ◌∙◌, arith, add-zero, append_assoc, length-append, length-drop, inl, inr}
use Rattle.std.specs.List.{concat}
use Rattle.std.proofs.lemmas.Bool.{eqb-true, eq-eqb, leb-false}
use Rattle.std.proofs.lemmas.Bool.Decides.{leb_tells, eqb_tells}
use Rattle.std.proofs.lemmas.List.{take-append-drop, drop-drop, append_cancel_right, take-take}
use Rattle.std.proofs.lemmas.List.Folds.{concat-append}
use Rattle.std.proofs.Math.Bool.{or-true}
use Rattle.relay_frames.specs.Frames.{text_frame}
use Rattle.relay_watching.specs.Between.{IsWhole, ends_at, is_end, is_closed, is_between}
use Rattle.relay_watching.specs.Course.{Course}
use Rattle.relay_watching.specs.Progress.{Progress, WasSent, due}
use Rattle.relay_watching.specs.Promised.{Joining, promised}
use Rattle.relay_watching.specs.Taped.{tape_frames, tape_bytes, offset}
use Rattle.relay_watching.specs.Texts.{following_answer}
use Rattle.relay_watching.proofs.Promises.{ends_within, drop-concat, promised_frames_on_tape}

-- a frame of the tape ends there, or the tape begins
abbrev pub IsEnd : Course → ℕ → Type 0
IsEnd c at = (k : ℕ) × (k ≤ length (tape_frames c)) × (at ≡ length (concat (take k (tape_frames c))))

end_told : (frames : List (List ℕ)) (at n : ℕ) → ends_at at n frames ≡ true → (k : ℕ) × (k ≤ length frames) × (at ≡ n + length (concat (take k frames)))
end_told [] at n is = (zero, omega arith, eqb-true at n is ∙ sym (add-zero n))
end_told (f ∷ frames) at n is = elim (eqb_tells at n) [
  | inl p ↦ (zero, omega arith, p.1 ∙ sym (add-zero n))
  | inr p ↦
      let later : ends_at at (n + length f) frames ≡ true = rw p.0 at is in
      let there = end_told frames at (n + length f) later in
      (suc there.0, omega (arith, there.1), there.2 ∙ omega (arith, length-append f (concat (take there.0 frames))))
]

told_end : (frames : List (List ℕ)) (at n k : ℕ) → k ≤ length frames → at ≡ n + length (concat (take k frames)) → ends_at at n frames ≡ true
told_end [] at n zero within is = eq-eqb at n (is ∙ add-zero n)
told_end [] at n (suc k) within is = absurd (omega arith)
told_end (f ∷ frames) at n zero within is = rw (eq-eqb at n (is ∙ add-zero n)) refl
told_end (f ∷ frames) at n (suc k) within is =
    rw (told_end frames at (n + length f) k (omega arith) (is ∙ omega (arith, length-append f (concat (take k frames)))), or-true (at == n)) refl

pub is_end_decides : (c : Course) (at : ℕ) → Decides (is_end c at) (IsEnd c at)
is_end_decides c at = (
  λ is. (let there = end_told (tape_frames c) at 0 is in (there.0, there.1, there.2 ∙ omega arith)),
  λ (k, within, is). told_end (tape_frames c) at 0 k within (is ∙ omega arith),
)

-- what ends at the first k frames of fewer than n ends at those of n, if it does not end before them
same_end : (frames : List (List ℕ)) (k n at : ℕ) → k ≤ n → at ≡ length (concat (take k frames)) → length (concat (take n frames)) ≤ at
    → at ≡ length (concat (take n frames))
same_end frames k n at before is behind =
    let low : length (concat (take k (take n frames))) ≤ length (concat (take n frames)) = ends_within k (take n frames) in
    let same : take k (take n frames) ≡ take k frames = take-take k n frames before in
    let most : length (concat (take k frames)) ≤ length (concat (take n frames)) = rw same at low in
    omega arith

-- a frame ends there, not before the place
end_behind : (c : Course) (place at : ℕ) → IsEnd c at → offset c place ≤ at
    → (k : ℕ) × (place ≤ k) × (at ≡ length (concat (take k (tape_frames c))))
end_behind c place at (k, within, is) begun = elim (leb_tells place k) [
  | inl p ↦ (k, p.1, is)
  | inr p ↦ (place, omega arith, same_end (tape_frames c) k place at (omega (arith, p.1)) is begun)
]

-- the frames after the first n, up to the first k of all, and those after them
cut_behind : (frames : List (List ℕ)) (n k : ℕ) → n ≤ k → concat (drop n frames) ≡ concat (take (k - n) (drop n frames)) ++ concat (drop k frames)
cut_behind frames n k before =
    let rest : drop (k - n) (drop n frames) ≡ drop k frames = drop-drop (k - n) n frames ∙ ap (λ m. drop m frames) (omega arith) in
    ap concat (sym (take-append-drop (k - n) (drop n frames))) ∙ concat-append (take (k - n) (drop n frames)) (drop (k - n) (drop n frames))
    ∙ ap (λ l. concat (take (k - n) (drop n frames)) ++ concat l) rest

-- as long as the close is not written, something is to come after the end of the game
none_left_case : (c : Course) (at : ℕ) (over closed : Bool) → is_some c.outcome ≡ over → leb (length (tape_bytes c)) at ≡ closed → over ≡ true
    → not (over && closed) ≡ true → drop at (tape_bytes c) ≡ [] → ⊥
none_left_case c at false closed is test over still none = cc over
none_left_case c at true true is test over still none = cc still
none_left_case c at true false is test over still none =
    let before = leb-false (length (tape_bytes c)) at test in
    let size : length (drop at (tape_bytes c)) ≡ 0 = ap length none in
    omega (arith, length-drop at (tape_bytes c))

none_left : (c : Course) (at : ℕ) → is_some c.outcome ≡ true → not (is_closed c at) ≡ true → drop at (tape_bytes c) ≡ [] → ⊥
none_left c at over still none = none_left_case c at (is_some c.outcome) (leb (length (tape_bytes c)) at) refl refl over still none

both : (a b : Bool) → (a && b) ≡ true → (a ≡ true) × (b ≡ true)
both true b is = (refl, is)
both false b is = cc is

pub whole_at_end : (c : Course) (j : Joining) (written : List ℕ) (r : Progress) → WasSent c j written r → r.left ≡ [] → IsEnd c r.at → not (is_closed c r.at) ≡ true
    → IsWhole c j written
unfolding due
whole_at_end c j written r sent greeted ended still =
    let frames = tape_frames c in
    let hello = text_frame (following_answer j.place j.position) in
    let there = end_behind c j.place r.at ended sent.begun in
    let k = there.0 in
    let rest : drop r.at (tape_bytes c) ≡ concat (drop k frames) = ap (λ n. drop n (tape_bytes c)) there.2 ∙ drop-concat k frames in
    let left : written ++ concat (drop k frames) ≡ promised c j = ap (λ l. written ++ l) (sym rest) ∙ rw greeted at sent.whole in
    let right : promised c j ≡ (hello ++ concat (take (k - j.place) (drop j.place frames))) ++ concat (drop k frames) =
    ap concat (promised_frames_on_tape c j sent.joined) ∙ ap (λ l. hello ++ l) (cut_behind frames j.place k there.1)
    ∙ sym (append_assoc hello (concat (take (k - j.place) (drop j.place frames))) (concat (drop k frames))) in
    let last : drop (k - j.place) (drop j.place frames) ≡ drop k frames = drop-drop (k - j.place) j.place frames ∙ ap (λ m. drop m frames) (omega (arith, there.1)) in
    record {
      sent = hello ∷ take (k - j.place) (drop j.place frames);
      rest = drop (k - j.place) (drop j.place frames);
      all = rw (promised_frames_on_tape c j sent.joined) (ap (λ l. hello ∷ l) (take-append-drop (k - j.place) (drop j.place frames)));
      whole = append_cancel_right written (hello ++ concat (take (k - j.place) (drop j.place frames))) (concat (drop k frames)) (left ∙ right);
      open_still = λ over none. none_left c r.at over still (rest ∙ ap concat (sym last ∙ none));
    }

-- Between frames, what was written are whole frames.
between_parts : (c : Course) (j : Joining) (written left : List ℕ) (at : ℕ) → WasSent c j written (record { left = left; at = at })
    → is_between c (record { left = left; at = at }) ≡ true → IsWhole c j written
unfolding is_between
between_parts c j written [] at sent is =
    whole_at_end c j written (record { left = []; at = at }) sent refl ((is_end_decides c at).0 (both (is_end c at) (not (is_closed c at)) is).0) (both (is_end c at) (not (is_closed c at)) is).1
between_parts c j written (x ∷ left) at sent is = cc is

pub whole_between : (c : Course) (j : Joining) (written : List ℕ) (r : Progress) → WasSent c j written r → is_between c r ≡ true → IsWhole c j written
whole_between c j written r sent is = between_parts c j written r.left r.at sent is
