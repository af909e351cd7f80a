-- The tests of moves say what their relations say.
use Rattle.std.proofs.Common.{◌≡◌, ◌≢◌, ℕ, Bool, true, false, ◌&&◌, ◌||◌, not, Option, Some, None, refl, ap, sym, ◌∙◌, ◌⊎◌, inl, inr}
use Rattle.std.specs.Prelude.{◌==◌, is_none, IsSome}
use Rattle.std.specs.List.{list_all}
use Rattle.std.proofs.lemmas.Bool.{and_parts, and_from, or_cases, or_left, or_right, both_ways, not-true, not_from_false, false_from_ne_true, eqb-true, eqb-false, eq-eqb, ne_eqb}
use Rattle.c960_board.specs.declared.piece.Kind.{Kind}
use Rattle.c960_board.specs.declared.piece.Kind.TheVariants.{Pawn, King}
use Rattle.c960_board.specs.declared.parts.Parts.{Parts}
use Rattle.c960_board.specs.Squares.{file_of, rank_of, home_square, ahead}
use Rattle.c960_board.specs.Pieces.{Cell, man, other, is_of, holds}
use Rattle.c960_board.specs.Cells.{has_right}
use Rattle.c960_board.specs.Moves.{Triple, IsMove}
use Rattle.c960_rules.specs.Lines.{squares, same_file}
use Rattle.c960_rules.specs.Attacks.{AttackedBy}
use Rattle.c960_rules.specs.Tests.Attacks.{attacks, is_forward, attacked_by}
use Rattle.c960_rules.specs.Tests.Check.{in_check}
use Rattle.c960_rules.specs.Reaches.{GoesAsOfficer, Steps, StepsTwice, Takes, PromotesRightly, GoesAsPawn, Reaches, is_target, pawn_rank, last_rank}
use Rattle.c960_rules.specs.Tests.Reaches.{is_empty, promotes_rightly, steps, steps_twice, takes, reaches}
use Rattle.c960_rules.specs.Castles.{Castles, king_goal, on_way, spans}
use Rattle.c960_rules.specs.Tests.Castles.{may_castle, is_vacant, is_safe, castles}
use Rattle.c960_rules.specs.After.{placement_after}
use Rattle.c960_rules.specs.Legal.{Legal}
use Rattle.c960_rules.specs.Tests.Legal.{is_legal}
use Rattle.c960_rules.proofs.AllSquares.{every_square, every_square_from}
use Rattle.c960_board.proofs.lemmas.Tests.{none_is, is_none_of, implied_tells, implied_from, so_parts, then_so}
use Rattle.c960_rules.proofs.lemmas.PieceFacts.{piece_on, goes_to_own, one_kind, own_is, is_own, holds_is, is_holds}
use Rattle.c960_rules.proofs.lemmas.Reached.{is_target_is}
use Rattle.c960_rules.proofs.lemmas.AttackTests.{forward_tells, forward_from, attacks_tells, attacks_from, attacked_by_tells, attacked_by_from, check_tells, check_from}

-- ---- Names for the parts of the tests.

-- whether the move is a pawn's
abbrev pub moves_pawn : Parts → Triple → Bool
moves_pawn p m = holds p.turn Pawn (piece_on p m.from)

-- whether the goal is on the mover's last rank
abbrev pub reaches_last : Parts → Triple → Bool
reaches_last p m = rank_of m.to == last_rank p.turn

-- whether the piece attacks its goal
abbrev pub attacks_goal : Parts → Triple → Bool
attacks_goal p m = attacks p.placement m.from m.to

-- whether a pawn would go one square forward
abbrev pub does_step : Parts → Triple → Bool
does_step p m = steps p.placement p.turn m.from m.to

-- whether a pawn would go two squares forward
abbrev pub does_step_twice : Parts → Triple → Bool
does_step_twice p m = steps_twice p.placement p.turn m.from m.to

-- whether a pawn would take
abbrev pub does_take : Parts → Triple → Bool
does_take p m = takes p.placement p.turn p.target m.from m.to

-- whether a pawn would go one of its three ways
abbrev pub pawn_goes : Parts → Triple → Bool
pawn_goes p m = does_step p m || (does_step_twice p m || does_take p m)

-- whether the other side attacks the square
abbrev pub is_hit : Parts → ℕ → Bool
is_hit p u = attacked_by p.placement (other p.turn) u

-- whether the square is on the king's way
abbrev pub on_kings_way : Parts → Triple → ℕ → Bool
on_kings_way p m u = spans m.from (king_goal p.turn m) u

-- whether the move leaves the mover's king attacked
abbrev pub leaves_check : Parts → Triple → Bool
leaves_check p m = in_check (placement_after p m) p.turn

-- ---- A pawn's moves.

-- a step, from its test
pub steps_tells : (p : Parts) (m : Triple) → does_step p m ≡ true → Steps p m
unfolding steps
steps_tells p m h =
    let w = and_parts (same_file m.from m.to) (is_forward p.turn m.from m.to && is_empty p.placement m.to) h in
    let v = and_parts (is_forward p.turn m.from m.to) (is_empty p.placement m.to) w.1 in
    record { file = w.0; forward = forward_tells p.turn m.from m.to v.0; empty = none_is (piece_on p m.to) v.1 }

-- and to its test
pub steps_from : (p : Parts) (m : Triple) → Steps p m → does_step p m ≡ true
unfolding steps
steps_from p m w =
    and_from (same_file m.from m.to) (is_forward p.turn m.from m.to && is_empty p.placement m.to) w.file
    (and_from (is_forward p.turn m.from m.to) (is_empty p.placement m.to) (forward_from p.turn m.from m.to w.forward)
    (is_none_of (piece_on p m.to) w.empty))

-- a double step, from its test
pub steps_twice_tells : (p : Parts) (m : Triple) → does_step_twice p m ≡ true → StepsTwice p m
unfolding steps_twice
steps_twice_tells p m h =
    let w = and_parts (rank_of m.from == pawn_rank p.turn) _ h in
    let v = and_parts (m.to == ahead p.turn (ahead p.turn m.from)) _ w.1 in
    let u = and_parts (is_empty p.placement (ahead p.turn m.from)) (is_empty p.placement m.to) v.1 in
    record {
      first = eqb-true (rank_of m.from) (pawn_rank p.turn) w.0;
      goal = eqb-true m.to (ahead p.turn (ahead p.turn m.from)) v.0;
      passed = none_is (piece_on p (ahead p.turn m.from)) u.0;
      empty = none_is (piece_on p m.to) u.1;
    }

-- and to its test
pub steps_twice_from : (p : Parts) (m : Triple) → StepsTwice p m → does_step_twice p m ≡ true
unfolding steps_twice
steps_twice_from p m w =
    and_from (rank_of m.from == pawn_rank p.turn) _ (eq-eqb (rank_of m.from) (pawn_rank p.turn) w.first)
    (and_from (m.to == ahead p.turn (ahead p.turn m.from)) _ (eq-eqb m.to (ahead p.turn (ahead p.turn m.from)) w.goal)
    (and_from (is_empty p.placement (ahead p.turn m.from)) (is_empty p.placement m.to)
    (is_none_of (piece_on p (ahead p.turn m.from)) w.passed) (is_none_of (piece_on p m.to) w.empty)))

-- the target passes its test
target_from : (o : Option ℕ) (t : ℕ) → o ≡ Some t → is_target o t ≡ true
target_from o t e = rw e (eq-eqb t t refl)

-- a capture, from its test
pub takes_tells : (p : Parts) (m : Triple) → does_take p m ≡ true → Takes p m
unfolding takes
takes_tells p m h =
    let w = and_parts (attacks_goal p m) (is_of (other p.turn) (piece_on p m.to) || is_target p.target m.to) h in
    record {
      attack = attacks_tells p.placement m.from m.to w.0;
      prey = elim (or_cases (is_of (other p.turn) (piece_on p m.to)) (is_target p.target m.to) w.1) [
        | inl e ↦ inl e
        | inr e ↦ inr (is_target_is p.target m.to e)
      ];
    }

-- and to its test
pub takes_from : (p : Parts) (m : Triple) → Takes p m → does_take p m ≡ true
unfolding takes
takes_from p m w =
    let enemy : Bool = is_of (other p.turn) (piece_on p m.to) in
    let target : Bool = is_target p.target m.to in
    let prey : (enemy || target) ≡ true =
    elim w.prey [
      | inl e ↦ or_left enemy target e
      | inr e ↦ or_right enemy target (target_from p.target m.to e)
    ] in
    and_from (attacks_goal p m) (enemy || target) (attacks_from p.placement m.from m.to w.attack) prey

-- a promotion on the last rank only, from its test
promotes_tells : (last : Bool) (q : Option Kind) → promotes_rightly last q ≡ true
    → (last ≡ true → IsSome q) × (last ≡ false → q ≡ None)
promotes_tells true None h = cc
promotes_tells false None h = (λ e. cc, λ e. refl)
promotes_tells true (Some k) h = (λ e. refl, λ e. cc)
promotes_tells false (Some k) h = cc

-- and to its test
promotes_from : (last : Bool) (q : Option Kind) → (last ≡ true → IsSome q) → (last ≡ false → q ≡ None)
    → promotes_rightly last q ≡ true
promotes_from true None some none = let e = some refl in cc
promotes_from false None some none = refl
promotes_from true (Some k) some none = refl
promotes_from false (Some k) some none = let e = none refl in cc

-- a promotion where it must be, from its test
pub promotion_tells : (p : Parts) (m : Triple) → promotes_rightly (reaches_last p m) m.promotion ≡ true
    → PromotesRightly p m
promotion_tells p m h =
    let w = promotes_tells (reaches_last p m) m.promotion h in
    record {
      last = λ e. w.0 (eq-eqb (rank_of m.to) (last_rank p.turn) e);
      others = λ e. w.1 (ne_eqb (rank_of m.to) (last_rank p.turn) e);
    }

-- and to its test
pub promotion_from : (p : Parts) (m : Triple) → PromotesRightly p m
    → promotes_rightly (reaches_last p m) m.promotion ≡ true
promotion_from p m w =
    promotes_from (reaches_last p m) m.promotion (λ e. w.last (eqb-true (rank_of m.to) (last_rank p.turn) e))
    (λ e. w.others (eqb-false (rank_of m.to) (last_rank p.turn) e))

-- a pawn's three ways, from their tests
ways_tells : (p : Parts) (m : Triple) → pawn_goes p m ≡ true → Steps p m ⊎ (StepsTwice p m ⊎ Takes p m)
ways_tells p m h =
    elim (or_cases (does_step p m) (does_step_twice p m || does_take p m) h) [
      | inl w ↦ inl (steps_tells p m w)
      | inr v ↦ elim (or_cases (does_step_twice p m) (does_take p m) v) [
        | inl w ↦ inr (inl (steps_twice_tells p m w))
        | inr w ↦ inr (inr (takes_tells p m w))
      ]
    ]

-- and to their tests
ways_from : (p : Parts) (m : Triple) → Steps p m ⊎ (StepsTwice p m ⊎ Takes p m) → pawn_goes p m ≡ true
ways_from p m (inl w) = or_left (does_step p m) _ (steps_from p m w)
ways_from p m (inr (inl w)) =
    or_right (does_step p m) (does_step_twice p m || does_take p m)
    (or_left (does_step_twice p m) (does_take p m) (steps_twice_from p m w))
ways_from p m (inr (inr w)) =
    or_right (does_step p m) (does_step_twice p m || does_take p m)
    (or_right (does_step_twice p m) (does_take p m) (takes_from p m w))

-- ---- Ordinary moves.

-- the form of the test: a pawn and another piece have a test each
forks : (free pawn x y : Bool)
    → elim free as (λ _. Bool) [ false ↦ false | true ↦ elim pawn as (λ _. Bool) [ true ↦ x | false ↦ y ] ] ≡ true
    → (free ≡ true) × (((pawn ≡ true) × (x ≡ true)) ⊎ ((pawn ≡ false) × (y ≡ true)))
forks true true x y h = (refl, inl (refl, h))
forks true false x y h = (refl, inr (refl, h))
forks false pawn x y h = cc

-- and the converse
fork_from : (free pawn x y : Bool) → free ≡ true → ((pawn ≡ true) × (x ≡ true)) ⊎ ((pawn ≡ false) × (y ≡ true))
    → elim free as (λ _. Bool) [ false ↦ false | true ↦ elim pawn as (λ _. Bool) [ true ↦ x | false ↦ y ] ] ≡ true
fork_from true true x y f (inl w) = w.1
fork_from true true x y f (inr w) = let e = w.0 in cc
fork_from true false x y f (inl w) = let e = w.0 in cc
fork_from true false x y f (inr w) = w.1
fork_from false pawn x y f w = cc

-- a pawn's move, from its tests
pawn_tells : (p : Parts) (m : Triple) → moves_pawn p m ≡ true
    → (promotes_rightly (reaches_last p m) m.promotion && pawn_goes p m) ≡ true → GoesAsPawn p m
pawn_tells p m pawn h =
    let w = and_parts (promotes_rightly (reaches_last p m) m.promotion) _ h in
    record {
      mover = holds_is p.turn Pawn (piece_on p m.from) pawn;
      way = ways_tells p m w.1;
      promotion = promotion_tells p m w.0;
    }

-- another piece's move, from its tests
officer_tells : (p : Parts) (m : Triple) → is_of p.turn (piece_on p m.from) ≡ true → moves_pawn p m ≡ false
    → (is_none m.promotion && attacks_goal p m) ≡ true → GoesAsOfficer p m
officer_tells p m own not_pawn h =
    let w = own_is p.turn (piece_on p m.from) own in
    let v = and_parts (is_none m.promotion) (attacks_goal p m) h in
    record {
      kind = w.kind;
      officer = λ e. both_ways (moves_pawn p m) not_pawn
          (is_holds p.turn Pawn (piece_on p m.from) (w.is ∙ ap (λ (k : Kind). man p.turn k) e));
      mover = w.is;
      attack = attacks_tells p.placement m.from m.to v.1;
      no_promotion = none_is m.promotion v.0;
    }

-- an ordinary move, from its test
pub reaches_tells : (p : Parts) (m : Triple) → reaches p m ≡ true → Reaches p m
unfolding reaches
reaches_tells p m h =
    let w = forks (is_of p.turn (piece_on p m.from) && not (goes_to_own p m)) (moves_pawn p m) _ _ h in
    let free = and_parts (is_of p.turn (piece_on p m.from)) (not (goes_to_own p m)) w.0 in
    record {
      goal = not-true (goes_to_own p m) free.1;
      goes = elim w.1 [ inl v ↦ inr (pawn_tells p m v.0 v.1) | inr v ↦ inl (officer_tells p m free.0 v.0 v.1) ];
    }

-- what moves is the mover's
own_from : (p : Parts) (m : Triple) → GoesAsOfficer p m ⊎ GoesAsPawn p m → is_of p.turn (piece_on p m.from) ≡ true
own_from p m (inl w) = is_own p.turn w.kind (piece_on p m.from) w.mover
own_from p m (inr w) = is_own p.turn Pawn (piece_on p m.from) w.mover

-- another piece is not a pawn
officer_from : (p : Parts) (m : Triple) → GoesAsOfficer p m → moves_pawn p m ≡ false
officer_from p m w =
    false_from_ne_true (moves_pawn p m)
    (λ e. w.officer (one_kind p.turn p.turn w.kind Pawn (sym w.mover ∙ holds_is p.turn Pawn (piece_on p m.from) e)))

-- a move by its kind, to its tests
goes_from : (p : Parts) (m : Triple) → GoesAsOfficer p m ⊎ GoesAsPawn p m
    → ((moves_pawn p m ≡ true) × ((promotes_rightly (reaches_last p m) m.promotion && pawn_goes p m) ≡ true))
    ⊎ ((moves_pawn p m ≡ false) × ((is_none m.promotion && attacks_goal p m) ≡ true))
goes_from p m (inl w) =
    let none = is_none_of m.promotion w.no_promotion in
    let attack = attacks_from p.placement m.from m.to w.attack in
    inr (officer_from p m w, and_from (is_none m.promotion) (attacks_goal p m) none attack)
goes_from p m (inr w) =
    let promotion = promotion_from p m w.promotion in
    let both = and_from (promotes_rightly (reaches_last p m) m.promotion) _ promotion (ways_from p m w.way) in
    inl (is_holds p.turn Pawn (piece_on p m.from) w.mover, both)

-- an ordinary move, to its test
pub reaches_from : (p : Parts) (m : Triple) → Reaches p m → reaches p m ≡ true
unfolding reaches
reaches_from p m w =
    fork_from (is_of p.turn (piece_on p m.from) && not (goes_to_own p m)) (moves_pawn p m) _ _
    (and_from (is_of p.turn (piece_on p m.from)) (not (goes_to_own p m)) (own_from p m w.goes)
    (not_from_false (goes_to_own p m) w.goal))
    (goes_from p m w.goes)

-- ---- Castling.

-- the king, the rook's square, the right and no promotion
pub record MayCastle (p : Parts) (m : Triple) : Type 0 where
  pub king : piece_on p m.from ≡ man p.turn King
  pub rook : m.to ≡ home_square p.turn (file_of m.to)
  pub right : has_right p.rights p.turn (file_of m.to) ≡ true
  pub no_promotion : m.promotion ≡ None

-- that a move may be castling, from its test
pub may_castle_tells : (p : Parts) (m : Triple) → may_castle p m ≡ true → MayCastle p m
unfolding may_castle
may_castle_tells p m h =
    let w = and_parts (holds p.turn King (piece_on p m.from)) _ h in
    let v = and_parts (m.to == home_square p.turn (file_of m.to)) _ w.1 in
    let u = and_parts (has_right p.rights p.turn (file_of m.to)) (is_none m.promotion) v.1 in
    record {
      king = holds_is p.turn King (piece_on p m.from) w.0;
      rook = eqb-true m.to (home_square p.turn (file_of m.to)) v.0;
      right = u.0;
      no_promotion = none_is m.promotion u.1;
    }

-- and to its test
pub may_castle_from : (p : Parts) (m : Triple) → MayCastle p m → may_castle p m ≡ true
unfolding may_castle
may_castle_from p m w =
    let king = is_holds p.turn King (piece_on p m.from) w.king in
    let rook = eq-eqb m.to (home_square p.turn (file_of m.to)) w.rook in
    let none = is_none_of m.promotion w.no_promotion in
    let right = and_from (has_right p.rights p.turn (file_of m.to)) (is_none m.promotion) w.right none in
    and_from (holds p.turn King (piece_on p m.from)) _ king
    (and_from (m.to == home_square p.turn (file_of m.to)) _ rook right)

-- the form of the test of a vacant square
vacant_parts : (way : Bool) (u s t : ℕ) (o : Cell) → (not way || ((u == s) || ((u == t) || is_none o))) ≡ true
    → way ≡ true → u ≢ s → u ≢ t → o ≡ None
vacant_parts false u s t o h on off_s off_t = cc
vacant_parts true u s t o h on off_s off_t =
    elim (or_cases (u == s) ((u == t) || is_none o) h) [
      | inl e ↦ absurd (off_s (eqb-true u s e))
      | inr f ↦ elim (or_cases (u == t) (is_none o) f) [ inl e ↦ absurd (off_t (eqb-true u t e)) | inr e ↦ none_is o e ]
    ]

-- and the converse
vacant_whole : (way : Bool) (u s t : ℕ) (o : Cell) → (way ≡ true → u ≢ s → u ≢ t → o ≡ None)
    → (not way || ((u == s) || ((u == t) || is_none o))) ≡ true
vacant_whole false u s t o h = refl
vacant_whole true u s t o h =
    elim (u == s) as (λ v. (u == s) ≡ v → (v || ((u == t) || is_none o)) ≡ true) [
      | true ↦ λ _. refl
      | false ↦ λ off_s. elim (u == t) as (λ v. (u == t) ≡ v → (v || is_none o) ≡ true) [
        | true ↦ λ _. refl
        | false ↦ λ off_t. is_none_of o (h refl (eqb-false u s off_s) (eqb-false u t off_t))
      ] refl
    ] refl

-- a square of the ways, from its test
pub vacant_tells : (p : Parts) (m : Triple) (u : ℕ) → is_vacant p m u ≡ true → on_way p.turn m u ≡ true → u ≢ m.from
    → u ≢ m.to → piece_on p u ≡ None
unfolding is_vacant
vacant_tells p m u h = vacant_parts (on_way p.turn m u) u m.from m.to (piece_on p u) h

-- and to its test
pub vacant_from : (p : Parts) (m : Triple) (u : ℕ)
    → (on_way p.turn m u ≡ true → u ≢ m.from → u ≢ m.to → piece_on p u ≡ None) → is_vacant p m u ≡ true
unfolding is_vacant
vacant_from p m u h = vacant_whole (on_way p.turn m u) u m.from m.to (piece_on p u) h

-- a square of the king's way, from its test
pub safe_tells : (p : Parts) (m : Triple) (u : ℕ) → is_safe p m u ≡ true → on_kings_way p m u ≡ true
    → AttackedBy p.placement (other p.turn) u → ⊥
unfolding is_safe
safe_tells p m u h on w =
    both_ways (is_hit p u) (not-true (is_hit p u) (implied_tells (on_kings_way p m u) (not (is_hit p u)) h on))
    (attacked_by_from p.placement (other p.turn) u w)

-- and to its test
pub safe_from : (p : Parts) (m : Triple) (u : ℕ)
    → (on_kings_way p m u ≡ true → AttackedBy p.placement (other p.turn) u → ⊥) → is_safe p m u ≡ true
unfolding is_safe
safe_from p m u h =
    implied_from (on_kings_way p m u) (not (is_hit p u)) (λ on.
    not_from_false (is_hit p u) (false_from_ne_true (is_hit p u) (λ e. h on (attacked_by_tells p.placement (other p.turn) u e))))

-- three tests, each made only if those before pass
abbrev in_turn : Bool → Bool → Bool → Bool
in_turn may vacant safe =
    elim may as (λ _. Bool) [
      | false ↦ false
      | true ↦ elim vacant as (λ _. Bool) [ false ↦ false | true ↦ safe ]
    ]

-- all three pass
castles_parts : (may vacant safe : Bool) → in_turn may vacant safe ≡ true
    → (may ≡ true) × (vacant ≡ true) × (safe ≡ true)
castles_parts true true safe h = (refl, refl, h)
castles_parts true false safe h = cc
castles_parts false vacant safe h = cc

-- and the converse
castles_whole : (may vacant safe : Bool) → may ≡ true → vacant ≡ true → safe ≡ true → in_turn may vacant safe ≡ true
castles_whole true true safe h e f = f
castles_whole true false safe h e f = cc
castles_whole false vacant safe h e f = cc

-- castling, from its test
pub castles_tells : (p : Parts) (m : Triple) → castles p m ≡ true → Castles p m
unfolding castles
castles_tells p m h =
    let w = castles_parts (may_castle p m) (list_all (is_vacant p m) squares) (list_all (is_safe p m) squares) h in
    let may = may_castle_tells p m w.0 in
    record {
      king = may.king;
      rook = may.rook;
      right = may.right;
      no_promotion = may.no_promotion;
      vacant = λ u l. vacant_tells p m u (every_square (is_vacant p m) w.1 u l);
      safe = λ u l. safe_tells p m u (every_square (is_safe p m) w.2 u l);
    }

-- and to its test
pub castles_from : (p : Parts) (m : Triple) → Castles p m → castles p m ≡ true
unfolding castles
castles_from p m w =
    castles_whole (may_castle p m) (list_all (is_vacant p m) squares) (list_all (is_safe p m) squares)
    (may_castle_from p m (record { king = w.king; rook = w.rook; right = w.right; no_promotion = w.no_promotion }))
    (every_square_from (is_vacant p m) (λ u l. vacant_from p m u (w.vacant u l)))
    (every_square_from (is_safe p m) (λ u l. safe_from p m u (w.safe u l)))

-- ---- Legal moves.

-- an ordinary move or castling, to their tests
either_from : (p : Parts) (m : Triple) → Reaches p m ⊎ Castles p m → (reaches p m || castles p m) ≡ true
either_from p m (inl w) = or_left (reaches p m) (castles p m) (reaches_from p m w)
either_from p m (inr w) = or_right (reaches p m) (castles p m) (castles_from p m w)

-- and from them
either_tells : (p : Parts) (m : Triple) → (reaches p m || castles p m) ≡ true → Reaches p m ⊎ Castles p m
either_tells p m h =
    elim (or_cases (reaches p m) (castles p m) h) [
      | inl e ↦ inl (reaches_tells p m e)
      | inr e ↦ inr (castles_tells p m e)
    ]

-- a legal move, from its test
pub legal_tells : (p : Parts) (m : Triple) → IsMove m → is_legal p m ≡ true → Legal p m
unfolding is_legal
legal_tells p m move h =
    let w = so_parts (reaches p m || castles p m) (not (leaves_check p m)) h in
    record {
      move = move;
      goes = either_tells p m w.0;
      safe = λ v.
          let check = check_from (placement_after p m) p.turn v in
          both_ways (leaves_check p m) (not-true (leaves_check p m) w.1) check;
    }

-- and to its test
pub legal_from : (p : Parts) (m : Triple) → Legal p m → is_legal p m ≡ true
unfolding is_legal
legal_from p m w =
    then_so (reaches p m || castles p m) (not (leaves_check p m)) (either_from p m w.goes)
    (not_from_false (leaves_check p m)
    (false_from_ne_true (leaves_check p m) (λ e. w.safe (check_tells (placement_after p m) p.turn e))))
