-- In each starting position neither king is in check, and the pawn on a2 may step to a3. This holds for any first rank:
-- it rests on the two ranks of pawns alone.
use Rattle.std.proofs.Common.{◌≡◌, ◌≢◌, ℕ, ◌<◌, List, Bool, false, cond, None, refl, sym, ◌∙◌, arith, lit≤, ◌⊎◌, inl, inr}
use Rattle.std.specs.Prelude.{◌==◌}
use Rattle.std.proofs.lemmas.Bool.{and_parts, cond_both, eqb-true, true≢false}
use Rattle.c960_board.specs.declared.numbering.TheConstants.{STARTS}
use Rattle.c960_board.specs.declared.piece.Colour.{Colour}
use Rattle.c960_board.specs.declared.piece.Colour.TheVariants.{White, Black}
use Rattle.c960_board.specs.declared.piece.Kind.{Kind}
use Rattle.c960_board.specs.declared.piece.Kind.TheVariants.{Pawn, King}
use Rattle.c960_board.specs.Squares.{file_of, rank_of, home_rank}
use Rattle.c960_board.specs.Pieces.{Cell, man, holds}
use Rattle.c960_board.specs.Cells.{cell_at}
use Rattle.c960_board.specs.Moves.{Triple}
use Rattle.c960_board.specs.Array.{array}
use Rattle.c960_board.specs.Start.{kind_on, start_cell, start_cells, start_of, start}
use Rattle.c960_board.proofs.lemmas.StartFacts.{cell_is}
use Rattle.c960_rules.specs.Check.{InCheck, IsLawful}
use Rattle.c960_rules.specs.Reaches.{pawn_rank, Reaches}
use Rattle.c960_rules.specs.After.{placement_after, is_en_passant}
use Rattle.c960_rules.specs.Legal.{Legal, Mate, Stale}
use Rattle.c960_rules.proofs.lemmas.PieceFacts.{goes_to_own, no_man, not_other, one_colour, one_kind}
use Rattle.c960_rules.proofs.CellFacts.{IsPassed, moved_cases}
use Rattle.c960_rules.proofs.lemmas.AfterFacts.{cells_after}
use Rattle.c960_rules.proofs.WallFacts.{IsBehind, IsWalled, no_check}

-- ---- The ranks of a starting position.

-- a man by the rank of its square: x is the piece that the first rank has on that file
row_man : (r : ℕ) (x : Kind) (c : Colour) (k : Kind) →
    cond (r == 0) (man White x) (cond (r == 1) (man White Pawn) (cond (r == 6) (man Black Pawn)
    (cond (r == 7) (man Black x) None))) ≡ man c k
    → IsBehind c k r
row_man r x c k =
    let family = λ (y : Cell). y ≡ man c k → IsBehind c k r in
    let eighth = cond (r == 7) (man Black x) None in
    let seventh = cond (r == 6) (man Black Pawn) eighth in
    let second = cond (r == 1) (man White Pawn) seventh in
    let home : (d : Colour) → r ≡ home_rank d → family (man d x) = λ d on e.
    let same = one_colour d c x k e in inl (rw same at on) in
    let pawn : (d : Colour) → r ≡ pawn_rank d → family (man d Pawn) = λ d on e.
    let same = one_colour d c Pawn k e in inr (rw same at on, sym (one_kind d c Pawn k e)) in
    cond_both (r == 0) (man White x) second family (λ b. home White (eqb-true r 0 b))
    (λ _. cond_both (r == 1) (man White Pawn) seventh family (λ b. pawn White (eqb-true r 1 b))
    (λ _. cond_both (r == 6) (man Black Pawn) eighth family (λ b. pawn Black (eqb-true r 6 b))
    (λ _. cond_both (r == 7) (man Black x) None family (λ b. home Black (eqb-true r 7 b)) (λ _ e. absurd cc))))

-- a square of the pawns' rank
pawn_cell : (rank : List Kind) (c : Colour) (u : ℕ) → rank_of u ≡ pawn_rank c → start_cell rank u ≡ man c Pawn
pawn_cell rank White u e = rw e
pawn_cell rank Black u e = rw e

-- a man of a starting position
man_behind : (rank : List Kind) (s : ℕ) (c : Colour) (k : Kind) → s < 64 → cell_at (start_cells rank 64) s ≡ man c k
    → IsBehind c k (rank_of s)
man_behind rank s c k l e = row_man (rank_of s) (kind_on rank (file_of s)) c k (sym (cell_is rank s l) ∙ e)

-- a king is on its home rank
king_home : (rank : List Kind) (c : Colour) (s : ℕ) → s < 64 → cell_at (start_cells rank 64) s ≡ man c King
    → rank_of s ≡ home_rank c
king_home rank c s l e = elim (man_behind rank s c King l e) [ inl home ↦ home | inr v ↦ let pawn = v.1 in absurd cc ]

-- a square with a man is not empty
not_empty : (c : Colour) (k : Kind) (o : Cell) → o ≡ man c k → o ≢ None
not_empty c k o e none = cc

-- each side is behind its pawns
start_walled : (rank : List Kind) (c : Colour) → IsWalled (start_cells rank 64) c
start_walled rank c =
    record {
      full = λ u l on_rank.
          not_empty c Pawn (cell_at (start_cells rank 64) u) (cell_is rank u l ∙ pawn_cell rank c u on_rank);
      behind = λ s k l e. man_behind rank s c k l e;
    }

-- no king is in check
start_unchecked : (rank : List Kind) (c : Colour) → InCheck (start_of rank).placement c → ⊥
unfolding start_of
start_unchecked rank c = no_check (start_cells rank 64) c (start_walled rank _) (king_home rank c)

-- ---- The first move: a2 to a3.

abbrev first_step : Triple
first_step = record { from = 8; to = 16; promotion = None }

-- a3 is empty
goal_empty : (rank : List Kind) → cell_at (start_of rank).placement 16 ≡ None
unfolding start_of
goal_empty rank = cell_is rank 16 (lit≤ tt)

-- there is a pawn on a2
pawn_there : (rank : List Kind) → cell_at (start_of rank).placement 8 ≡ man White Pawn
unfolding start_of
pawn_there rank = cell_is rank 8 (lit≤ tt)

-- the pawn may step
reaches_start : (rank : List Kind) → Reaches (start_of rank) first_step
unfolding start_of
reaches_start rank =
    let empty = goal_empty rank in
    record {
      goal = rw empty refl;
      goes = inr (record {
        mover = pawn_there rank;
        way = inl (record { file = refl; forward = refl; empty = empty });
        promotion = record { last = λ e. absurd cc; others = λ e. refl };
      });
    }

-- the move goes to no piece of White's
goal_free : (rank : List Kind) → goes_to_own (start_of rank) first_step ≡ false
goal_free rank = let r = reaches_start rank in r.goal

-- it takes nothing en passant, for there is no target
not_passed : (rank : List Kind) (u : ℕ) → IsPassed (start_of rank) first_step u → ⊥
unfolding start_of is_en_passant
not_passed rank u w =
    let pawn : Bool = holds White Pawn (cell_at (start_cells rank 64) first_step.from) in
    let h = and_parts pawn false w.en_passant in absurd (true≢false (sym h.1))

-- a piece that is somewhere after the move was there before, or is the pawn on a3
stood : (rank : List Kind) (u : ℕ) (c : Colour) (k : Kind) → u < 64
    → cell_at (placement_after (start_of rank) first_step) u ≡ man c k
    → (cell_at (start_of rank).placement u ≡ man c k) ⊎ (man White Pawn ≡ man c k)
stood rank u c k l e =
    let is = sym (cells_after (start_of rank) first_step u l) ∙ e in
    elim (moved_cases (start_of rank) first_step u (goal_free rank)) [
      | inl w ↦ inr (sym (pawn_there rank) ∙ sym w.holds ∙ is)
      | inr (inl w) ↦ absurd (no_man c k (sym w.holds ∙ is))
      | inr (inr w) ↦ inl (sym w.holds ∙ is)
    ]

-- Black's pawns stay where they are
stays : (rank : List Kind) (u : ℕ) → u < 64 → rank_of u ≡ pawn_rank Black
    → cell_at (placement_after (start_of rank) first_step) u ≡ man Black Pawn
unfolding start_of
stays rank u l on_rank =
    let there : cell_at (start_cells rank 64) u ≡ man Black Pawn = cell_is rank u l ∙ pawn_cell rank Black u on_rank in
    cells_after (start_of rank) first_step u l
    ∙ elim (moved_cases (start_of rank) first_step u (goal_free rank)) [
      | inl w ↦ let on = w.square in absurd (omega arith)
      | inr (inl w) ↦ elim w.square [
        | inl on ↦ absurd (omega arith)
        | inr passed ↦ absurd (not_passed rank u passed)
      ]
      | inr (inr w) ↦ w.holds ∙ there
    ]

-- hence Black is behind its pawns
after_walled : (rank : List Kind) → IsWalled (placement_after (start_of rank) first_step) Black
unfolding start_of
after_walled rank =
    record {
      full = λ u l on_rank. not_empty Black Pawn _ (stays rank u l on_rank);
      behind = λ s k l e. elim (stood rank s Black k l e) [
        | inl old ↦ man_behind rank s Black k l old
        | inr new ↦ absurd (not_other White (one_colour White Black Pawn k new))
      ];
    }

-- and White's king where it was
after_home : (rank : List Kind) (s : ℕ) → s < 64
    → cell_at (placement_after (start_of rank) first_step) s ≡ man White King → rank_of s ≡ home_rank White
unfolding start_of
after_home rank s l e =
    elim (stood rank s White King l e) [
      | inl old ↦ king_home rank White s l old
      | inr new ↦ let same = one_kind White White Pawn King new in absurd cc
    ]

-- the first move is legal
first_legal : (rank : List Kind) → Legal (start_of rank) first_step
unfolding start_of
first_legal rank =
    record {
      move = record { from = lit≤ tt; to = lit≤ tt; promotion = refl };
      goes = inl (reaches_start rank);
      safe = no_check (placement_after (start_of rank) first_step) White (after_walled rank) (after_home rank);
    }

-- ---- The starting positions by their numbers.

-- Black, which does not have the move, is not in check
pub start_is_lawful : (n : ℕ) → n < STARTS → IsLawful (start n)
unfolding start start_of
start_is_lawful n l = start_unchecked (array n) Black

-- nor is White
pub start_has_no_check : (n : ℕ) → n < STARTS → InCheck (start n).placement White → ⊥
unfolding start
start_has_no_check n l = start_unchecked (array n) White

-- White has a legal move
pub start_has_move : (n : ℕ) → n < STARTS → (m : Triple) × Legal (start n) m
unfolding start
start_has_move n l = (first_step, first_legal (array n))

-- so it is not mated
pub start_is_no_mate : (n : ℕ) → n < STARTS → Mate (start n) → ⊥
start_is_no_mate n l mate = let w = start_has_move n l in mate.no_move w.0 w.1

-- nor stalemated
pub start_is_no_stalemate : (n : ℕ) → n < STARTS → Stale (start n) → ⊥
start_is_no_stalemate n l stale = let w = start_has_move n l in stale.no_move w.0 w.1
