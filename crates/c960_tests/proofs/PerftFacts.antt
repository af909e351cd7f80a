-- Facts of perft: its sum step by step, its bound, and the counters on the way.
use Rattle.std.proofs.Common.{ℕ, zero, suc, List, true, None, length, take, get_or, ap, refl, subst, Fits, w64, ◌≡◌, ◌∙◌, ◌+◌, ◌*◌, ◌^◌, ◌<◌, ◌≤◌}
use Rattle.std.specs.List.{sum_by, All}
use Rattle.std.proofs.lemmas.List.Sums.{sum_by-le, length-filter, count_by-le-length, sum_by_more_le}
use Rattle.std.proofs.lemmas.List.Elements.{filter_passes, All-get_or, All-from_get_or}
use Rattle.std.proofs.Math.Nat.{pow-succ', pow-zero, mul-le-mul_right, pow-le-pow_right}
use native.Mathlib.Omega.{arith}
use Rattle.c960_board.specs.declared.parts.Parts.{Parts}
use Rattle.c960_board.specs.Moves.{Triple, IsMove}
use Rattle.c960_rules.specs.After.{after}
use Rattle.c960_rules.specs.Legal.{Legal}
use Rattle.c960_rules.specs.Tests.Legal.{legal_list, all_moves, is_legal}
use Rattle.c960_rules.proofs.lemmas.CounterSteps.{half_moves_step, number_step}
use Rattle.c960_rules.proofs.lemmas.MoveTests.{legal_tells}
use Rattle.c960_tests.specs.Perft.{perft}

-- there are 20,480 triples
all_count : length all_moves ≡ 20480
unfolding all_moves
all_count = refl

-- a position has at most 20,480 legal moves
list_bound : (p : Parts) → length (legal_list p) ≤ 20480
unfolding legal_list
list_bound p = omega (arith, length-filter (is_legal p) all_moves, count_by-le-length (is_legal p) all_moves, all_count)

-- what is in the list passes the test of legality
listed_passes : (p : Parts) (i : ℕ) (d : Triple) → i < length (legal_list p)
    → is_legal p (get_or (legal_list p) i d) ≡ true
unfolding legal_list
listed_passes p i d h =
    All-get_or (λ m. is_legal p m ≡ true) (legal_list p) i d h (filter_passes (is_legal p) all_moves)

-- a move in the list is legal
pub listed_legal : (p : Parts) (i : ℕ) (d : Triple) → i < length (legal_list p)
    → IsMove (get_or (legal_list p) i d) → Legal p (get_or (legal_list p) i d)
listed_legal p i d h move = legal_tells p (get_or (legal_list p) i d) move (listed_passes p i d h)

-- each ply has at most 20,480 times the sequences of the one before
perft_bound : (n : ℕ) (p : Parts) → perft n p ≤ 20480 ^ n
unfolding perft
perft_bound zero p = omega (arith, pow-zero 20480)
perft_bound (suc n) p =
    let none : Triple = record { from = 0; to = 0; promotion = None } in
    let each : All (λ m. perft n (after p m) ≤ 20480 ^ n) (legal_list p) =
    All-from_get_or (λ m. perft n (after p m) ≤ 20480 ^ n) (legal_list p) none
    (λ i _. perft_bound n (after p (get_or (legal_list p) i none))) in
    let summed : sum_by (λ m. perft n (after p m)) (legal_list p) ≤ length (legal_list p) * 20480 ^ n =
    sum_by-le (λ m. perft n (after p m)) (20480 ^ n) (legal_list p) each in
    let wide : length (legal_list p) * 20480 ^ n ≤ 20480 * 20480 ^ n =
    mul-le-mul_right (20480 ^ n) (list_bound p) in
    omega (arith, summed, wide, pow-succ' 20480 n)

-- four plies fit a number of 64 bits
perft_fits : (n : ℕ) (p : Parts) → n ≤ 4 → perft n p ≤ 18446744073709551615
perft_fits n p h =
    let four : 20480 ^ n ≤ 20480 ^ 4 = pow-le-pow_right (omega arith) h in
    omega (arith, perft_bound n p, four)

-- the sum so far and the next term are within the whole sum
next_fits : (n : ℕ) (p : Parts) (i : ℕ) (d : Triple) → n < 4 → i < length (legal_list p)
    → sum_by (λ m. perft n (after p m)) (take i (legal_list p)) + perft n (after p (get_or (legal_list p) i d))
    ≤ 18446744073709551615
unfolding perft
next_fits n p i d small h =
    let all : perft (suc n) p ≤ 18446744073709551615 = perft_fits (suc n) p (omega (arith, small)) in
    omega (arith, sum_by_more_le (λ m. perft n (after p m)) (legal_list p) i d h, all)

-- so the addition of the next term does not overflow
pub sum_fits : (n : ℕ) (p q : Parts) (i : ℕ) (m : Triple) (items : List Triple) (sum next : ℕ) → n < 4
    → items ≡ legal_list p → i < length items → m ≡ get_or items i m → q ≡ after p m
    → sum ≡ sum_by (λ x. perft n (after p x)) (take i items) → next ≡ perft n q → Fits w64 (sum + next)
sum_fits n p q i m items sum next small listed below item reached so_far more =
    let inside : i < length (legal_list p) = subst (λ (l : List Triple). i < length l) listed below in
    let sum_is : sum ≡ sum_by (λ x. perft n (after p x)) (take i (legal_list p)) =
    so_far ∙ ap (λ (l : List Triple). sum_by (λ x. perft n (after p x)) (take i l)) listed in
    let item_is : m ≡ get_or (legal_list p) i m = item ∙ ap (λ (l : List Triple). get_or l i m) listed in
    let next_is : next ≡ perft n (after p (get_or (legal_list p) i m)) =
    more ∙ ap (perft n) (reached ∙ ap (after p) item_is) in
    omega (arith, next_fits n p i m small inside, sum_is, next_is)

-- both counters of the next position
pub after_counters : (p : Parts) (m : Triple)
    → ((after p m).half_moves ≤ p.half_moves + 1) × ((after p m).number ≤ p.number + 1)
after_counters p m = (half_moves_step p m, number_step p m)
