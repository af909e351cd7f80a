-- How far back a position can be the same as the present one: the half-move counter bounds it.
use Rattle.std.proofs.Common.{◌≡◌, ℕ, suc, ◌+◌, ◌-◌, ◌<◌, ◌≤◌, List, [], ◌∷◌, ◌++◌, length, take, drop, Bool, false, cond, count_by, refl, ap, sym, ◌∙◌, subst, arith, length-append, length-drop, ◌⊎◌, inl, inr}
use Rattle.std.proofs.lemmas.Bool.{false_from_ne_true}
use Rattle.std.proofs.lemmas.List.{take-append-drop, length-take-le}
use Rattle.std.proofs.lemmas.List.Sums.{sum_by-append}
use Rattle.c960_board.specs.declared.parts.Parts.{Parts}
use Rattle.c960_board.specs.Moves.{Triple}
use Rattle.c960_board.specs.Position.{IsPosition}
use Rattle.c960_board.specs.Start.{start}
use Rattle.c960_board.proofs.lemmas.StartFacts.{start_is_position}
use Rattle.c960_rules.specs.After.{after}
use Rattle.c960_rules.specs.Check.{IsLawful}
use Rattle.c960_rules.specs.Progress.{progress, Advances}
use Rattle.c960_rules.proofs.lemmas.AfterFacts.{after_position, after_lawful}
use Rattle.c960_rules.proofs.lemmas.ProgressLaws.{advances, same_progress}
use Rattle.c960_rules.proofs.lemmas.StartFacts.{start_is_lawful}
use Rattle.c960_game.specs.Game960.{Game960}
use Rattle.c960_game.specs.Positions.{position_after, positions_from, last_position}
use Rattle.c960_game.specs.Inner.Replay.{AllLegal}
use Rattle.c960_game.specs.Tests.Same.{same}
use Rattle.c960_game.specs.Times.{times, uncounted, recent_positions, recent_times}
use Rattle.c960_game.proofs.Bounds.{half_moves_grow, number_grows, half_moves_bound, number_bound}
use Rattle.c960_game.proofs.lemmas.LogFacts.{legal_from}
use Rattle.c960_game.proofs.PositionFacts.{later_positions}
use Rattle.c960_game.proofs.SameFacts.{same_placement_of}

-- ---- Moves that can be made from a position.

-- a lawful position from which the moves are legal, whose counters have room for them
record CanMake (p : Parts) (l : List Triple) : Type 0 where
  pub valid : IsPosition p
  pub lawful : IsLawful p
  pub legal : AllLegal p l
  pub half_moves : p.half_moves + length l ≤ 65535
  pub number : p.number + length l ≤ 65535

-- after one of them the others can be made
then_can_make : (p : Parts) (m : Triple) (l : List Triple) → CanMake p (m ∷ l) → CanMake (after p m) l
unfolding AllLegal position_after
then_can_make p m l h = record {
  valid = after_position p m h.valid h.lawful h.legal.0 (let room = h.half_moves in omega arith) (let room = h.number in omega arith);
  lawful = after_lawful p m h.legal.0;
  legal = h.legal.1;
  half_moves = omega (arith, h.half_moves, half_moves_grow p (m ∷ []));
  number = omega (arith, h.number, number_grows p (m ∷ []));
}

-- the first of them advances
first_advances : (p : Parts) (m : Triple) (l : List Triple) → CanMake p (m ∷ l) → Advances p m
unfolding AllLegal
first_advances p m l h = advances p m h.valid h.lawful h.legal.0

-- the moves of a legal game can be made from its start
game_can_make : (n : ℕ) (l : List Triple) → Game960 n l → length l < 65535 → CanMake (start n) l
unfolding position_after
game_can_make n l game short = record {
  valid = start_is_position n game.numbered;
  lawful = start_is_lawful n game.numbered;
  legal = legal_from n [] l game;
  half_moves = omega (arith, half_moves_bound n []);
  number = omega (arith, number_bound n []);
}

-- ---- From a position to a later one.

-- over this many moves the counter rose with each, or it restarted on the way, and then progress was made
record Elapsed (p later : Parts) (moves : ℕ) : Type 0 where
  pub never_back : progress p ≤ progress later
  pub counted : (later.half_moves ≡ p.half_moves + moves) ⊎ ((later.half_moves < moves) × (progress p < progress later))

-- the counter over one move more, in front
counted_more : (p later : Parts) (m : Triple) (moves : ℕ) → Advances p m → Elapsed (after p m) later moves
    → (later.half_moves ≡ p.half_moves + suc moves) ⊎ ((later.half_moves < suc moves) × (progress p < progress later))
counted_more p later m moves step rest =
    elim rest.counted [
      | inl rose ↦ elim step.counted [
        | inl one ↦ inl (omega (arith, rose, one))
        | inr anew ↦ inr (omega (arith, rose, anew.0), omega (arith, anew.1, rest.never_back))
      ]
      | inr began ↦ inr (omega (arith, began.0), omega (arith, step.never_back, began.1))
    ]

-- one move more, in front
elapsed_more : (p later : Parts) (m : Triple) (moves : ℕ) → Advances p m → Elapsed (after p m) later moves
    → Elapsed p later (suc moves)
elapsed_more p later m moves step rest = record {
  never_back = omega (arith, step.never_back, rest.never_back);
  counted = counted_more p later m moves step rest;
}

-- legal moves
elapsed : (p : Parts) (l : List Triple) → CanMake p l → Elapsed p (position_after p l) (length l)
unfolding position_after
elapsed p [] h = record { never_back = omega arith; counted = inl (omega arith) }
elapsed p (m ∷ l) h =
    elapsed_more p (position_after (after p m) l) m (length l) (first_advances p m l h) (elapsed (after p m) l (then_can_make p m l h))

-- a position further back than the counter counts is not the same
earlier_differs : (p : Parts) (l : List Triple) → CanMake p l → (position_after p l).half_moves < length l
    → same p (position_after p l) ≡ false
earlier_differs p l h far =
    let later = position_after p l in
    let rises : progress p < progress later = elim (elapsed p l h).counted [
      | inl rose ↦ absurd (omega (arith, rose))
      | inr began ↦ began.1
    ] in
    false_from_ne_true (same p later)
    (λ e. let equal = same_progress p later (same_placement_of p later e) in omega (arith, equal, rises))

-- ---- Counting.

-- a first element that fails the test is not counted
first_fails : (test : Parts → Bool) (p : Parts) (ps : List Parts) → test p ≡ false
    → count_by test (p ∷ ps) ≡ count_by test ps
first_fails test p ps e =
    let sum = sum_by-append (λ (x : Parts). cond (test x) 1 0) (p ∷ []) ps in
    omega (arith, rw e at sum)

-- it is enough to count from a position that is as many moves back as the counter says, or more
count_later : (p last : Parts) (l recent : List Triple) → CanMake p (l ++ recent)
    → last ≡ position_after p (l ++ recent) → last.half_moves ≤ length recent
    → count_by (λ x. same x last) (positions_from p (l ++ recent))
    ≡ count_by (λ x. same x last) (positions_from (position_after p l) recent)
unfolding position_after positions_from
count_later p last [] recent h is near = refl
count_later p last (m ∷ l) recent h is near =
    let far : (position_after p (m ∷ (l ++ recent))).half_moves < length (m ∷ (l ++ recent)) =
    rw (← is) (omega (arith, length-append l recent)) in
    let differs = rw (← is) at (earlier_differs p (m ∷ (l ++ recent)) h far) in
    first_fails (λ x. same x last) p (positions_from (after p m) (l ++ recent)) differs
    ∙ count_later (after p m) last l recent (then_can_make p m (l ++ recent) h) is near

-- as many moves are left as the counter says
uncounted_left : (n : ℕ) (l : List Triple) → (last_position n l).half_moves ≤ length (drop (uncounted n l) l)
unfolding uncounted
uncounted_left n l = omega (arith, half_moves_bound n l, length-drop (uncounted n l) l)

-- the place where the counter began to count is a place of the log
uncounted_within : (n : ℕ) (l : List Triple) → length (take (uncounted n l) l) ≡ uncounted n l
unfolding uncounted
uncounted_within n l = length-take-le (length l - (last_position n l).half_moves) l (omega arith)

-- the recent positions, from there on
recent_from : (n : ℕ) (l : List Triple)
    → recent_positions n l ≡ positions_from (last_position n (take (uncounted n l) l)) (drop (uncounted n l) l)
unfolding recent_positions
recent_from n l =
    let u = uncounted n l in
    let whole : take u l ++ drop u l ≡ l = take-append-drop u l in
    let later = later_positions (start n) (take u l) (drop u l) in
    rw (whole, uncounted_within n l) at later

-- the count of a game, from where its counter began to count
pub times_recent : (n : ℕ) (l : List Triple) → Game960 n l → length l < 65535 → times n l ≡ recent_times n l
unfolding times recent_times
times_recent n l game short =
    let u = uncounted n l in
    let whole : take u l ++ drop u l ≡ l = take-append-drop u l in
    let can = subst (λ (k : List Triple). CanMake (start n) k) (sym whole) (game_can_make n l game short) in
    let last = ap (λ (k : List Triple). position_after (start n) k) (sym whole) in
    let near : (last_position n l).half_moves ≤ length (drop u l) = uncounted_left n l in
    let count = count_later (start n) (last_position n l) (take u l) (drop u l) can last near in
    ap (λ (k : List Triple). count_by (λ x. same x (last_position n l)) (positions_from (start n) k)) (sym whole) ∙ count
    ∙ ap (λ ps. count_by (λ x. same x (last_position n l)) ps) (sym (recent_from n l))
