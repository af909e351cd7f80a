-- Each starting position is a position.
use Rattle.std.proofs.Common.{◌≡◌, ◌≢◌, ℕ, ◌+◌, ◌<◌, Bool, true, false, cond, List, [], ◌∷◌, ◌++◌, length, Some, None, IsTrue, refl, sym, ap, ◌∙◌, arith, inl, inr, zero-add, lit≤}
use Rattle.std.specs.Prelude.{◌==◌, nat_lt, count_by}
use Rattle.std.specs.List.{list_all, range_with_len}
use Rattle.std.proofs.lemmas.Bool.{and_from, and_parts, or_cases, not-true, true≢false, eqb-true, cond_both}
use Rattle.std.proofs.lemmas.List.{get_or-map, length-map}
use Rattle.std.proofs.lemmas.List.FromFn.{get_or-map-range_with_len, length-map-range_with_len, map-range_with_len_more}
use Rattle.c960_board.specs.declared.numbering.TheConstants.{STARTS}
use Rattle.c960_board.specs.declared.piece.Colour.{Colour}
use Rattle.c960_board.specs.declared.piece.Colour.TheVariants.{White, Black}
use Rattle.c960_board.specs.declared.piece.Kind.{Kind}
use Rattle.c960_board.specs.declared.piece.Kind.TheVariants.{Pawn, Rook, King}
use Rattle.c960_board.specs.declared.rights.CastlingRights.{CastlingRights}
use Rattle.c960_board.specs.Squares.{file_of, rank_of, home_rank, home_square, IsEndRank}
use Rattle.c960_board.specs.Pieces.{Cell, man, holds, same_kind}
use Rattle.c960_board.specs.Position.{IsPlacement, AreRights, IsPosition}
use Rattle.c960_board.specs.Cells.{cell_at, rights_of, has_right}
use Rattle.c960_board.specs.Array.{array}
use Rattle.c960_board.specs.Start.{kind_on, start_cell, start_cells, rook_files, start_of, start}
use Rattle.c960_board.proofs.lemmas.Ranges.{each_below}
use Rattle.c960_board.proofs.KindFacts.{same_kind_is}
use Rattle.c960_board.proofs.StartTable.{has_one_king, has_no_pawn, has_rook, same_truth, is_one, is_alone, is_king_fit, is_start_rank, is_start, all_start}

-- what a starting position needs of its rank
record IsStartRank (rank : List Kind) : Type 0 where
  full : length rank ≡ 8
  one_king : (c : Colour) → count_by (holds c King) (start_cells rank 64) ≡ 1
  no_pawn : (f : ℕ) → f < 8 → kind_on rank f ≢ Pawn
  one_rook : (king f g : ℕ) → king < 8 → f < 8 → g < 8 → kind_on rank king ≡ King
      → has_rook rank f ≡ true → has_rook rank g ≡ true → nat_lt f king ≡ nat_lt g king → f ≡ g

-- equal truth values pass the test
same_truth_from : (a b : Bool) → a ≡ b → same_truth a b ≡ true
same_truth_from true true e = refl
same_truth_from true false e = absurd cc
same_truth_from false true e = absurd cc
same_truth_from false false e = refl

-- what the test says of a file
no_pawn_is : (rank : List Kind) (f : ℕ) → has_no_pawn rank f ≡ true → kind_on rank f ≢ Pawn
unfolding has_no_pawn
no_pawn_is rank f h e =
    let is : same_kind (kind_on rank f) Pawn ≡ true = ap (λ (k : Kind). same_kind k Pawn) e in
    let isnt = not-true _ h in
    absurd cc

-- what it says of two files
one_is : (rank : List Kind) (king f g : ℕ) → is_one rank king f g ≡ true
    → has_rook rank f ≡ true → has_rook rank g ≡ true → nat_lt f king ≡ nat_lt g king → f ≡ g
unfolding is_one
one_is rank king f g e a b side =
    let all = and_from _ _ a (and_from _ _ b (same_truth_from (nat_lt f king) (nat_lt g king) side)) in
    elim (or_cases _ _ e) [
      | inl fails ↦ absurd (true≢false (sym all ∙ not-true _ fails))
      | inr same ↦ eqb-true f g same
    ]

-- what it says of the king's file
king_is : (rank : List Kind) (king : ℕ) → is_king_fit rank king ≡ true → kind_on rank king ≡ King
    → list_all (is_alone rank king) (range_with_len 0 8) ≡ true
unfolding is_king_fit
king_is rank king e h =
    let here : same_kind (kind_on rank king) King ≡ true = ap (λ (k : Kind). same_kind k King) h in
    let alone = list_all (is_alone rank king) (range_with_len 0 8) in
    sym (ap (λ (b : Bool). elim b [ true ↦ alone | false ↦ true ]) here) ∙ e

-- what the test says of a rank
start_rank_is : (rank : List Kind) → is_start_rank rank ≡ true → IsStartRank rank
unfolding is_start_rank has_one_king is_alone
start_rank_is rank e =
    let a = and_parts _ _ e in
    let b = and_parts _ _ a.1 in
    let c = and_parts _ _ b.1 in
    let kings = list_all (is_king_fit rank) (range_with_len 0 8) in
    let d = and_parts (list_all (has_no_pawn rank) (range_with_len 0 8)) kings c.1 in
    let white : count_by (holds White King) (start_cells rank 64) ≡ 1 = eqb-true _ _ b.0 in
    let black : count_by (holds Black King) (start_cells rank 64) ≡ 1 = eqb-true _ _ c.0 in
    record {
      full = eqb-true _ _ a.0;
      one_king = λ c. elim c as (λ x. count_by (holds x King) (start_cells rank 64) ≡ 1) [
        | White ↦ white
        | Black ↦ black
      ];
      no_pawn = λ f l. no_pawn_is rank f (each_below (has_no_pawn rank) 8 d.0 f l);
      one_rook = λ king f g k l m h.
          let fit = king_is rank king (each_below (is_king_fit rank) 8 d.1 king k) h in
          one_is rank king f g (each_below (is_one rank king f) 8 (each_below (is_alone rank king) 8 fit f l) g m);
    }

-- a square of a starting position
pub cell_is : (rank : List Kind) (s : ℕ) → s < 64 → cell_at (start_cells rank 64) s ≡ start_cell rank s
unfolding start_cells
cell_is rank s l = get_or-map-range_with_len (start_cell rank) 0 64 s s None l (zero-add s)

-- a square of the home rank
home_cell : (rank : List Kind) (c : Colour) (s : ℕ) → rank_of s ≡ home_rank c
    → start_cell rank s ≡ man c (kind_on rank (file_of s))
home_cell rank White s e = rw e
home_cell rank Black s e = rw e

-- the colour of what a square holds
colour_in : Cell → Colour
colour_in None = White
colour_in (Some p) = p.colour

-- its kind
kind_in : Cell → Kind
kind_in None = Pawn
kind_in (Some p) = p.kind

-- one man has one colour and one kind
same_man : (c d : Colour) (k l : Kind) → man c k ≡ man d l → (c ≡ d) × (k ≡ l)
unfolding colour_in kind_in
same_man c d k l e = (ap colour_in e, ap kind_in e)

-- the square's rank, and the kind on its file, if the square holds a king
row_king : (r : ℕ) (x : Kind) (c : Colour) →
    cond (r == 0) (man White x) (cond (r == 1) (man White Pawn) (cond (r == 6) (man Black Pawn)
    (cond (r == 7) (man Black x) None))) ≡ man c King
    → (r ≡ home_rank c) × (x ≡ King)
row_king r x c =
    let family = λ (y : Cell). y ≡ man c King → (r ≡ home_rank c) × (x ≡ King) in
    let eighth = cond (r == 7) (man Black x) None in
    let seventh = cond (r == 6) (man Black Pawn) eighth in
    let second = cond (r == 1) (man White Pawn) seventh in
    let white : r ≡ 0 → family (man White x) = λ at e.
    let same = same_man White c x King e in
    (at ∙ ap home_rank same.0, same.1) in
    let black : r ≡ 7 → family (man Black x) = λ at e.
    let same = same_man Black c x King e in
    (at ∙ ap home_rank same.0, same.1) in
    let pawn : (d : Colour) → family (man d Pawn) = λ d e. let same = (same_man d c Pawn King e).1 in absurd cc in
    cond_both (r == 0) (man White x) second family (λ b. white (eqb-true r 0 b))
    (λ _. cond_both (r == 1) (man White Pawn) seventh family (λ _. pawn White)
    (λ _. cond_both (r == 6) (man Black Pawn) eighth family (λ _. pawn Black)
    (λ _. cond_both (r == 7) (man Black x) None family (λ b. black (eqb-true r 7 b)) (λ _ e. absurd cc))))

-- a king is on its side's home rank, on the file of the rank's king
king_cell : (rank : List Kind) (c : Colour) (s : ℕ) → start_cell rank s ≡ man c King
    → (rank_of s ≡ home_rank c) × (kind_on rank (file_of s) ≡ King)
king_cell rank c s e = row_king (rank_of s) (kind_on rank (file_of s)) c e

-- the first rank and the last are the home ranks
end_rank : (r : ℕ) → IsEndRank r → (c : Colour) × (r ≡ home_rank c)
end_rank r h = elim h [ inl e ↦ (White, e) | inr e ↦ (Black, e) ]

-- there is no pawn there
end_is : (rank : List Kind) → IsStartRank rank → (c : Colour) (s : ℕ) → s < 64 → IsEndRank (rank_of s)
    → cell_at (start_cells rank 64) s ≢ man c Pawn
end_is rank h c s l ends e =
    let home = end_rank (rank_of s) ends in
    let cell = sym (home_cell rank home.0 s home.1) ∙ sym (cell_is rank s l) ∙ e in
    h.no_pawn (file_of s) (omega arith) (same_man home.0 c (kind_on rank (file_of s)) Pawn cell).1

-- a starting position has 64 squares
cells_full : (rank : List Kind) → length (start_cells rank 64) ≡ 64
unfolding start_cells
cells_full rank = length-map-range_with_len (start_cell rank) 0 64

-- a starting position has a placement
placement_is : (rank : List Kind) → IsStartRank rank → IsPlacement (start_cells rank 64)
placement_is rank h = record { full = cells_full rank; one_king = h.one_king; no_end_pawn = end_is rank h }

-- the rights of both sides
abbrev both_files : List Kind → CastlingRights
both_files rank = record { white = rook_files rank; black = rook_files rank }

-- a right has a rook
right_is : (rank : List Kind) (c : Colour) (f : ℕ) → length rank ≡ 8 → f < 8
    → has_right (both_files rank) c f ≡ has_rook rank f
unfolding has_rook
right_is rank White f full l = get_or-map (λ k. same_kind k Rook) rank f Pawn false (omega arith)
right_is rank Black f full l = get_or-map (λ k. same_kind k Rook) rank f Pawn false (omega arith)

-- the test for a rook
rook_from : (rank : List Kind) (f : ℕ) → has_rook rank f ≡ true → kind_on rank f ≡ Rook
unfolding has_rook
rook_from rank f e = same_kind_is (kind_on rank f) Rook e

-- there is a right or none for each file
rights_width : (rank : List Kind) (c : Colour) → length rank ≡ 8 → length (rights_of (both_files rank) c) ≡ 8
rights_width rank White full = length-map rank (λ k. same_kind k Rook) ∙ full
rights_width rank Black full = length-map rank (λ k. same_kind k Rook) ∙ full

-- the home rank's squares
home_numbers : (c : Colour) (f : ℕ) → f < 8
    → (home_square c f < 64) × (rank_of (home_square c f) ≡ home_rank c) × (file_of (home_square c f) ≡ f)
home_numbers White f l = (omega arith, omega arith, omega arith)
home_numbers Black f l = (omega arith, omega arith, omega arith)

-- both sides of a starting position may castle with both rooks
rights_are : (rank : List Kind) → IsStartRank rank → (c : Colour) → AreRights (start_cells rank 64) (both_files rank) c
rights_are rank h c =
    let rook_on = λ (f : ℕ) (l : f < 8) (r : IsTrue (has_right (both_files rank) c f)).
    sym (right_is rank c f h.full l) ∙ r in
    let king_at = λ (s : ℕ) (l : s < 64) (e : cell_at (start_cells rank 64) s ≡ man c King).
    king_cell rank c s (sym (cell_is rank s l) ∙ e) in
    record {
      width = rights_width rank c h.full;
      rook = λ f l r.
          let home = home_numbers c f l in
          let on : kind_on rank (file_of (home_square c f)) ≡ Rook =
          ap (kind_on rank) home.2 ∙ rook_from rank f (rook_on f l r) in
          cell_is rank (home_square c f) home.0 ∙ home_cell rank c (home_square c f) home.1 ∙ ap (man c) on;
      king = λ f s l m r e. (king_at s m e).0;
      one_each_side = λ f g s l m n r t e side.
          h.one_rook (file_of s) f g (omega arith) l m (king_at s n e).1 (rook_on f l r) (rook_on g m t) side;
    }

-- what can be made from the rank is a position
start_is_from : (rank : List Kind) → IsStartRank rank → IsPosition (start_of rank)
unfolding start_of
start_is_from rank h =
    record {
      placement = placement_is rank h;
      rights = rights_are rank h;
      target = λ t e. absurd cc;
      counters = record { half_moves = lit≤ tt; numbered = lit≤ tt; bounded = lit≤ tt };
    }

-- each number below 960 has a starting position
pub start_is_position : (n : ℕ) → n < STARTS → IsPosition (start n)
unfolding start is_start
start_is_position n l =
    start_is_from (array n) (start_rank_is (array n) (each_below is_start 960 all_start n l))

-- one more cell of a start
pub start_cells_more : (rank : List Kind) (n : ℕ)
    → start_cells rank (n + 1) ≡ start_cells rank n ++ start_cell rank n ∷ []
unfolding start_cells
start_cells_more rank n = map-range_with_len_more (start_cell rank) 0 n n (zero-add n)

-- before the first cell
pub start_cells_none : (rank : List Kind) → start_cells rank 0 ≡ []
unfolding start_cells
start_cells_none rank = refl
