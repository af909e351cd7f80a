-- The positions since the half-move counter began to count: before the first move, after one move more, and how often the
-- position is then among them.
use Rattle.std.proofs.Common.{◌≡◌, ◌≢◌, ℕ, ◌+◌, ◌-◌, ◌≤◌, List, [], ◌∷◌, ◌++◌, length, count_by, cond, true, refl, ap, ◌∙◌, arith, length-append, length-drop, inl, inr}
use Rattle.std.proofs.Math.Seq.{drop-append_seam}
use Rattle.std.proofs.lemmas.List.{drop-append-le}
use Rattle.std.proofs.lemmas.List.Sums.{sum_by-append, count_by-le-length}
use Rattle.c960_board.specs.declared.parts.Parts.{Parts}
use Rattle.c960_board.specs.Moves.{Triple}
use Rattle.c960_board.specs.Start.{start}
use Rattle.c960_rules.specs.After.{after}
use Rattle.c960_game.specs.declared.limits.TheConstants.{MOST_PLIES}
use Rattle.c960_game.specs.Game960.{Game960}
use Rattle.c960_game.specs.Positions.{last_position, positions}
use Rattle.c960_game.specs.Tests.Same.{same}
use Rattle.c960_game.specs.Times.{times, uncounted, recent_positions, recent_times}
use Rattle.c960_rules.proofs.lemmas.CounterSteps.{counted}
use Rattle.c960_game.proofs.Bounds.{half_moves_bound}
use Rattle.c960_game.proofs.CounterFacts.{times_recent}
use Rattle.c960_game.proofs.lemmas.LogFacts.{game_positions_more, last_more, start_alone}
use Rattle.c960_game.proofs.PositionFacts.{length_positions}
use Rattle.c960_game.proofs.SameFacts.{same_from}

-- ---- The positions.

-- before the first move it is the start alone
pub recent_none : (n : ℕ) → recent_positions n [] ≡ start n ∷ []
unfolding recent_positions uncounted
recent_none n =
    let all : length {A = Triple} [] - (last_position n []).half_moves ≡ 0 = omega arith in
    rw all (start_alone n)

-- there is one more than the half-move counter says
pub length_recent : (n : ℕ) (l : List Triple) → length (recent_positions n l) ≡ (last_position n l).half_moves + 1
unfolding recent_positions uncounted
length_recent n l =
    omega (arith, length-drop (length l - (last_position n l).half_moves) (positions n l), length_positions (start n) l, half_moves_bound n l)

-- the half-move counter with one move more
half_moves_more : (n : ℕ) (l : List Triple) (m : Triple)
    → (last_position n (l ++ m ∷ [])).half_moves ≡ (after (last_position n l) m).half_moves
half_moves_more n l m = ap (λ (p : Parts). p.half_moves) (last_more n l m)

-- a move that resets the counter leaves the position after it alone
pub recent_anew : (n : ℕ) (l : List Triple) (m : Triple) → (after (last_position n l) m).half_moves ≡ 0
    → recent_positions n (l ++ m ∷ []) ≡ after (last_position n l) m ∷ []
unfolding recent_positions uncounted
recent_anew n l m reset =
    let all : length (l ++ m ∷ []) - (last_position n (l ++ m ∷ [])).half_moves ≡ length (positions n l) =
    omega (arith, half_moves_more n l m, length-append l (m ∷ []), length_positions (start n) l) in
    rw (all, game_positions_more n l m) (drop-append_seam (positions n l) (after (last_position n l) m ∷ []))

-- every other move adds it
pub recent_more : (n : ℕ) (l : List Triple) (m : Triple) → (after (last_position n l) m).half_moves ≢ 0
    → recent_positions n (l ++ m ∷ []) ≡ recent_positions n l ++ after (last_position n l) m ∷ []
unfolding recent_positions uncounted
recent_more n l m kept =
    let since = length l - (last_position n l).half_moves in
    let one_more : (after (last_position n l) m).half_moves ≡ (last_position n l).half_moves + 1 =
    elim (counted (last_position n l) m) [ inl e ↦ absurd (kept e) | inr e ↦ e ] in
    let as_before : length (l ++ m ∷ []) - (last_position n (l ++ m ∷ [])).half_moves ≡ since =
    omega (arith, length-append l (m ∷ []), half_moves_more n l m, one_more, half_moves_bound n l) in
    let within : since ≤ length (positions n l) = omega (arith, length_positions (start n) l) in
    rw (as_before, game_positions_more n l m) (drop-append-le since (positions n l) (after (last_position n l) m ∷ []) within)

-- ---- Counting.

-- a position is the same as itself
same_with_itself : (p : Parts) → same p p ≡ true
same_with_itself p =
    same_from p p (record { turn = refl; placement = refl; rights = refl; captures = λ m. (λ h. h, λ h. h) })

-- a position added to others is counted once more
count_more : (p : Parts) (ps : List Parts) → count_by (λ x. same x p) (ps ++ p ∷ []) ≡ count_by (λ x. same x p) ps + 1
count_more p ps =
    let sum = sum_by-append (λ (x : Parts). cond (same x p) 1 0) ps (p ∷ []) in
    omega (arith, rw (same_with_itself p) at sum)

-- the count over the recent positions, the last of them being the present one
count_recent : (n : ℕ) (l : List Triple) (earlier : List Parts) (last : Parts) → Game960 n l → length l ≤ MOST_PLIES
    → last_position n l ≡ last → recent_positions n l ≡ earlier ++ last ∷ []
    → times n l ≡ count_by (λ x. same x last) earlier + 1
unfolding recent_times
count_recent n l earlier last game short here recent =
    times_recent n l game (omega arith) ∙ rw (here, recent) (count_more last earlier)

-- after a capture or a pawn move the position is there for the first time
pub times_anew : (n : ℕ) (l : List Triple) (m : Triple) → Game960 n (l ++ m ∷ []) → length (l ++ m ∷ []) ≤ MOST_PLIES
    → (after (last_position n l) m).half_moves ≡ 0 → times n (l ++ m ∷ []) ≡ 1
times_anew n l m game short reset =
    let next = after (last_position n l) m in
    count_recent n (l ++ m ∷ []) [] next game short (last_more n l m) (recent_anew n l m reset)

-- after every other move it is counted among the recent ones, and once more
pub times_more : (n : ℕ) (l : List Triple) (m : Triple) → Game960 n (l ++ m ∷ []) → length (l ++ m ∷ []) ≤ MOST_PLIES
    → (after (last_position n l) m).half_moves ≢ 0
    → times n (l ++ m ∷ []) ≡ count_by (λ x. same x (after (last_position n l) m)) (recent_positions n l) + 1
times_more n l m game short kept =
    let next = after (last_position n l) m in
    count_recent n (l ++ m ∷ []) (recent_positions n l) next game short (last_more n l m) (recent_more n l m kept)

-- the count over all recent positions
pub times_counted : (n : ℕ) (l : List Triple) → Game960 n l → length l ≤ MOST_PLIES
    → times n l ≡ count_by (λ x. same x (last_position n l)) (recent_positions n l)
unfolding recent_times
times_counted n l game short = times_recent n l game (omega arith)

-- no more of them are counted than there are
pub count_bound : (n : ℕ) (l : List Triple) (last : Parts)
    → count_by (λ x. same x last) (recent_positions n l) ≤ (last_position n l).half_moves + 1
count_bound n l last = omega (arith, count_by-le-length (λ x. same x last) (recent_positions n l), length_recent n l)
