-- What is promised is on the tape after the greeting, and grows with the board.
use Rattle.std.proofs.Common.{◌≡◌, ◌≢◌, ℕ, ◌+◌, ◌≤◌, suc, zero, List, [], ◌∷◌, ◌++◌, map, length, take, drop, None, refl, sym, ap, ◌∙◌, arith, append_assoc, append-nil, length-append, add-zero}
use Rattle.std.specs.List.{concat}
use Rattle.std.proofs.lemmas.List.{take-append-drop, drop_at, take-append-le, drop-append-le, map-append, length-map, drop-map}
use Rattle.std.proofs.lemmas.List.Folds.{concat-append}
use Rattle.relay_watching.specs.Course.{Course, with_move, with_outcome}
use Rattle.relay_frames.specs.Frames.{text_frame}
use Rattle.relay_watching.specs.Promised.{Joining, move_texts, end_texts, done_frame, close_frames, promised_frames, promised}
use Rattle.relay_watching.specs.Taped.{tape_frames, tape_bytes, offset}
use Rattle.c960_board.specs.Moves.{Triple}
use Rattle.c960_game.specs.declared.outcome.Outcome.{Outcome}
use Rattle.relay_watching.specs.Texts.{following_answer, move_answer, over_answer}

-- ---- Texts by their places.

pub move_texts-append : (place : ℕ) (xs ys : List Triple) → move_texts place (xs ++ ys) ≡ move_texts place xs ++ move_texts (place + length xs) ys
move_texts-append place [] ys = rw add-zero
move_texts-append place (x ∷ xs) ys =
    ap (λ l. move_answer place x ∷ l)
    (move_texts-append (place + 1) xs ys ∙ ap (λ n. move_texts (place + 1) xs ++ move_texts n ys) (omega arith))

pub length-move_texts : (place : ℕ) (xs : List Triple) → length (move_texts place xs) ≡ length xs
length-move_texts place [] = refl
length-move_texts place (x ∷ xs) = ap suc (length-move_texts (place + 1) xs)

pub drop-move_texts : (n place : ℕ) (xs : List Triple) → n ≤ length xs → drop n (move_texts place xs) ≡ move_texts (place + n) (drop n xs)
drop-move_texts zero place xs within = rw add-zero
drop-move_texts (suc n) place [] within = absurd (omega arith)
drop-move_texts (suc n) place (x ∷ xs) within =
    drop-move_texts n (place + 1) xs (omega arith) ∙ ap (λ k. move_texts k (drop n xs)) (omega arith)

-- the texts on the tape of a board
abbrev tape_texts : Course → List (List ℕ)
tape_texts c = move_texts 0 c.moves ++ end_texts c.outcome

length-tape_texts : (c : Course) → length c.moves ≤ length (tape_texts c)
length-tape_texts c = omega (arith, length-append (move_texts 0 c.moves) (end_texts c.outcome), length-move_texts 0 c.moves)

-- from a place on they are those of that place and of the places after it
drop-tape_texts : (c : Course) (place : ℕ) → place ≤ length c.moves → drop place (tape_texts c) ≡ move_texts place (drop place c.moves) ++ end_texts c.outcome
drop-tape_texts c place within =
    let enough : place ≤ length (move_texts 0 c.moves) = omega (arith, length-move_texts 0 c.moves) in
    drop-append-le place (move_texts 0 c.moves) (end_texts c.outcome) enough
    ∙ ap (λ l. l ++ end_texts c.outcome) (drop-move_texts place 0 c.moves within ∙ ap (λ k. move_texts k (drop place c.moves)) (omega arith))

-- ---- Frames by their places.

pub length-tape_frames : (c : Course) → length c.moves ≤ length (tape_frames c)
unfolding tape_frames
length-tape_frames c =
    omega (arith, length-tape_texts c, length-map (tape_texts c) text_frame, length-append (map text_frame (tape_texts c)) (close_frames c.outcome))

-- What is promised is the greeting, and then the frames of the tape from that place on.
pub promised_frames_on_tape : (c : Course) (j : Joining) → j.place ≤ length c.moves
    → promised_frames c j ≡ text_frame (following_answer j.place j.position) ∷ drop j.place (tape_frames c)
unfolding promised_frames tape_frames
promised_frames_on_tape c j within =
    let enough : j.place ≤ length (map text_frame (tape_texts c)) = omega (arith, length-tape_texts c, length-map (tape_texts c) text_frame) in
    ap (λ l. text_frame (following_answer j.place j.position) ∷ l)
    (sym (
    drop-append-le j.place (map text_frame (tape_texts c)) (close_frames c.outcome) enough
    ∙ ap (λ l. l ++ close_frames c.outcome) (drop-map text_frame j.place (tape_texts c) ∙ ap (map text_frame) (drop-tape_texts c j.place within))
    ))

-- the bytes from where the first k frames end
pub drop-concat : (k : ℕ) (frames : List (List ℕ)) → drop (length (concat (take k frames))) (concat frames) ≡ concat (drop k frames)
drop-concat k frames =
    let cut : concat frames ≡ concat (take k frames) ++ concat (drop k frames) =
    ap concat (sym (take-append-drop k frames)) ∙ concat-append (take k frames) (drop k frames) in
    rw cut (drop_at (concat (take k frames)) (concat (drop k frames)) (length (concat (take k frames))) refl)

-- where the first k frames end is within the bytes of all of them
pub ends_within : (k : ℕ) (frames : List (List ℕ)) → length (concat (take k frames)) ≤ length (concat frames)
ends_within k frames =
    let cut : concat frames ≡ concat (take k frames) ++ concat (drop k frames) =
    ap concat (sym (take-append-drop k frames)) ∙ concat-append (take k frames) (drop k frames) in
    rw (cut, length-append) (omega arith)

pub promised_on_tape : (c : Course) (j : Joining) → j.place ≤ length c.moves
    → promised c j ≡ text_frame (following_answer j.place j.position) ++ drop (offset c j.place) (tape_bytes c)
promised_on_tape c j within =
    ap concat (promised_frames_on_tape c j within) ∙ ap (λ l. text_frame (following_answer j.place j.position) ++ l) (sym (drop-concat j.place (tape_frames c)))

-- ---- A board goes on.

-- The course goes on, and its tape has these further frames.
pub record Continues (c d : Course) (more : List (List ℕ)) : Type 0 where
  pub longer : length c.moves ≤ length d.moves
  pub frames : tape_frames d ≡ tape_frames c ++ more
  pub some : more ≢ []

pub move_continues : (c : Course) (m : Triple) → c.outcome ≡ None
    → Continues c (with_move c m) (text_frame (move_answer (length c.moves) m) ∷ [])
unfolding tape_frames
move_continues c m going = record {
  some = λ none. cc none;
  longer = omega (arith, length-append c.moves (m ∷ []));
  frames =
      simp (going, move_texts-append 0 c.moves (m ∷ []), append-nil, map-append text_frame (move_texts 0 c.moves) (move_texts (0 + length c.moves) (m ∷ [])))
      (ap (λ k. map text_frame (move_texts 0 c.moves) ++ text_frame (move_answer k m) ∷ []) (omega arith));
}

pub end_continues : (c : Course) (o : Outcome) → c.outcome ≡ None → Continues c (with_outcome c o) (text_frame (over_answer o) ∷ done_frame ∷ [])
unfolding tape_frames
end_continues c o going = record {
  some = λ none. cc none;
  longer = omega arith;
  frames =
      simp (going, append-nil, map-append text_frame (move_texts 0 c.moves) (over_answer o ∷ []))
      (append_assoc (map text_frame (move_texts 0 c.moves)) (text_frame (over_answer o) ∷ []) (done_frame ∷ []));
}

pub tape_grows : (c d : Course) (more : List (List ℕ)) → Continues c d more → tape_bytes d ≡ tape_bytes c ++ concat more
tape_grows c d more on = ap concat on.frames ∙ concat-append (tape_frames c) more

pub offset_stays : (c d : Course) (more : List (List ℕ)) (place : ℕ) → Continues c d more → place ≤ length c.moves → offset d place ≡ offset c place
offset_stays c d more place on within =
    let enough : place ≤ length (tape_frames c) = omega (arith, length-tape_frames c) in
    ap (λ l. length (concat l)) (ap (take place) on.frames ∙ take-append-le place (tape_frames c) more enough)

pub promised_frames_grow : (c d : Course) (more : List (List ℕ)) (j : Joining) → Continues c d more → j.place ≤ length c.moves
    → promised_frames d j ≡ promised_frames c j ++ more
promised_frames_grow c d more j on within =
    let there : j.place ≤ length d.moves = omega (arith, on.longer) in
    let enough : j.place ≤ length (tape_frames c) = omega (arith, length-tape_frames c) in
    rw (promised_frames_on_tape d j there, promised_frames_on_tape c j within, on.frames, drop-append-le j.place (tape_frames c) more enough) refl

pub promised_grows : (c d : Course) (more : List (List ℕ)) (j : Joining) → Continues c d more → j.place ≤ length c.moves
    → promised d j ≡ promised c j ++ concat more
promised_grows c d more j on within = ap concat (promised_frames_grow c d more j on within) ∙ concat-append (promised_frames c j) more
