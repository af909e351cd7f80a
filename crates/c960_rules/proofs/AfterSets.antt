-- The sets after an ordinary move.
use Rattle.std.proofs.Common.{◌≡◌, ◌≢◌, ℕ, ◌*◌, ◌%◌, ◌^◌, ◌<◌, Bool, true, false, not, ◌&&◌, ◌||◌, Option, Some, None, length, refl, ap, sym, ◌∙◌, ◌⊎◌, inl, inr, arith, w64, IsTrue}
use Rattle.std.specs.Prelude.{◌==◌, bit_and, bit_or, ◌↔◌}
use Rattle.std.specs.Int.{bit_not}
use mir.Val.{bool_byte}
use Rattle.std.proofs.Math.Bool.{and-false, and-true, or-false, or-true}
use Rattle.std.proofs.lemmas.Bool.{cases_eq, ne_eqb, eqb-true, eqb-false, both_ways, not-true, not_from_false}
use Rattle.c960_board.specs.declared.piece.Colour.{Colour}
use Rattle.c960_board.specs.declared.piece.Colour.TheVariants.{White, Black}
use Rattle.c960_board.specs.declared.piece.Kind.{Kind}
use Rattle.c960_board.specs.declared.piece.Kind.TheVariants.{Pawn, Knight, Bishop, Rook, Queen, King}
use Rattle.c960_board.specs.declared.parts.Parts.{Parts}
use Rattle.c960_board.specs.Moves.{Triple, IsMove, is_promotion}
use Rattle.c960_board.specs.Pieces.{Cell, man, other, same_colour, is_of, holds}
use Rattle.c960_board.specs.Position.{IsPosition}
use Rattle.c960_board.specs.Cells.{cell_at}
use Rattle.c960_board.specs.Sets.{is_kind, is_occupied, set_of, sets_of}
use Rattle.c960_rules.specs.After.{landed, cell_moved, cell_after, placement_after}
use Rattle.c960_rules.specs.Attacks.{AttackedBy}
use Rattle.c960_rules.specs.Tests.Attacks.{attacks}
use Rattle.c960_rules.specs.Reaches.{Reaches}
use Rattle.c960_rules.proofs.lemmas.Reached.{passed_pawn}
use Rattle.c960_rules.specs.Inner.Carried.{taken_off, put_on, carried, all_carried}
use Rattle.c960_rules.specs.Check.{InCheck}
use Rattle.c960_rules.specs.Inner.Safety.{is_passed_on, is_occupied_after, is_gone}
use Rattle.c960_rules.specs.Inner.Wheres.{where_set, is_attacker_on, attacks_over}
use Rattle.c960_rules.proofs.lemmas.PieceFacts.{piece_on, goes_to_own, no_man, one_colour, one_kind, is_holds, is_own, not_other}
use Rattle.c960_rules.proofs.lemmas.AfterFacts.{has_king, cells_after, full_after}
use Rattle.c960_rules.proofs.CellFacts.{moved_cases, landing}
use Rattle.c960_rules.proofs.WhereFacts.{where_none, where_nothing, where_only, where_or, where_and, where_not, where_agree, set_where, in_where}
use Rattle.c960_rules.proofs.AttackAgree.{some_attacked, none_attacked}

-- ---- One cell.

-- the cell after an ordinary move
abbrev after_by : Bool → Bool → Bool → Cell → Cell → Cell
after_by on_to on_from on_passed x y =
    elim on_to as (λ _. Cell) [ true ↦ x | false ↦ elim (on_from || on_passed) as (λ _. Cell) [ true ↦ None | false ↦ y ] ]

occupied_by : (a f ps : Bool) (x y : Cell) → is_occupied x ≡ true
    → is_occupied (after_by a f ps x y) ≡ (((is_occupied y && not f) && not ps) || a)
occupied_by true f ps x y h = h ∙ sym (or-true ((is_occupied y && not f) && not ps))
occupied_by false true ps x y h = simp (and-false)
occupied_by false false true x y h = simp (and-false)
occupied_by false false false x y h = simp (and-true, or-false)

attacker_by : (g : Cell → Bool) (a f ps : Bool) (x y : Cell) → g x ≡ false → g None ≡ false → (f ≡ true → g y ≡ false)
    → g (after_by a f ps x y) ≡ (g y && not (a || ps))
attacker_by g true f ps x y own none moved = own ∙ sym (and-false (g y))
attacker_by g false true true x y own none moved = none ∙ sym (and-false (g y))
attacker_by g false true false x y own none moved = none ∙ sym (moved refl) ∙ sym (and-true (g y))
attacker_by g false false true x y own none moved = none ∙ sym (and-false (g y))
attacker_by g false false false x y own none moved = sym (and-true (g y))

-- what lands is a piece of the mover's side
landed_own : (c : Colour) (o : Cell) (k : Option Kind) → is_of c o ≡ true → is_of c (landed o k) ≡ true
landed_own c None k h = cc
landed_own c (Some q) None h = h
landed_own c (Some q) (Some k) h = h

pub own_occupied : (c : Colour) (o : Cell) → is_of c o ≡ true → is_occupied o ≡ true
own_occupied c None h = cc
own_occupied c (Some q) h = refl

colours_apart : (c d : Colour) → same_colour d c ≡ true → same_colour d (other c) ≡ false
colours_apart White White h = refl
colours_apart Black Black h = refl
colours_apart White Black h = cc
colours_apart Black White h = cc

pub own_not_other : (c : Colour) (o : Cell) → is_of c o ≡ true → is_of (other c) o ≡ false
own_not_other c None h = refl
own_not_other c (Some q) h = colours_apart c q.colour h

-- ---- The board after the move.

module _ (p : Parts) (m : Triple) (own : is_of p.turn (piece_on p m.from) ≡ true) (free : goes_to_own p m ≡ false) where
  -- what a square holds
  pub cell_is : (u : ℕ) → u < 64
      → cell_at (placement_after p m) u
      ≡ after_by (u == m.to) (u == m.from) (is_passed_on p m u) (landed (piece_on p m.from) m.promotion) (piece_on p u)
  unfolding cell_after cell_moved
  cell_is u l = cells_after p m u l ∙ rw (free, cell_after) refl

  -- which are occupied
  pub occupied_is : (set : ℕ) → set ≡ where_set (λ s. is_occupied_after p m s) → set ≡ set_of is_occupied (placement_after p m)
  occupied_is set e =
      e ∙ where_agree (λ s. is_occupied_after p m s) (λ s. is_occupied (cell_at (placement_after p m) s))
      (λ u l.
      let cell = cell_is u l in
      let lands = own_occupied p.turn (landed (piece_on p m.from) m.promotion) (landed_own p.turn (piece_on p m.from) m.promotion own) in
      sym (ap is_occupied cell
      ∙ occupied_by (u == m.to) (u == m.from) (is_passed_on p m u) (landed (piece_on p m.from) m.promotion) (piece_on p u) lands))
      ∙ sym (set_where is_occupied (placement_after p m) (full_after p m))

  -- the attackers that are not gone
  pub hits_are : (occupied k hits gone rest : ℕ) → hits ≡ where_set (λ s. is_attacker_on p.placement occupied (other p.turn) s k)
      → gone ≡ where_set (λ s. is_gone p m s) → rest ≡ bit_and hits (bit_not w64 gone)
      → rest ≡ where_set (λ s. is_attacker_on (placement_after p m) occupied (other p.turn) s k)
  hits_are occupied k hits gone rest eh eg er =
      er ∙ where_and (λ s. is_attacker_on p.placement occupied (other p.turn) s k) (λ s. not (is_gone p m s)) hits (bit_not w64 gone) eh
      (where_not (λ s. is_gone p m s) gone eg)
      ∙ where_agree (λ s. is_attacker_on p.placement occupied (other p.turn) s k && not (is_gone p m s))
      (λ s. is_attacker_on (placement_after p m) occupied (other p.turn) s k)
      (λ u l.
      let cell = cell_is u l in
      let g = λ (o : Cell). is_of (other p.turn) o && attacks_over occupied o u k in
      let lands = own_not_other p.turn (landed (piece_on p m.from) m.promotion) (landed_own p.turn (piece_on p m.from) m.promotion own) in
      let landed_no : g (landed (piece_on p m.from) m.promotion) ≡ false = rw lands in
      let left_no : (u == m.from) ≡ true → g (piece_on p u) ≡ false =
      λ h. let e = eqb-true u m.from h in let no = own_not_other p.turn (piece_on p m.from) own in rw (e, no) in
      sym (ap g cell
      ∙ attacker_by g (u == m.to) (u == m.from) (is_passed_on p m u) (landed (piece_on p m.from) m.promotion) (piece_on p u) landed_no
      refl left_no))

-- a king of the side is in the set of its kings
pub king_in : (p : Parts) (c : Colour) (set : ℕ) → IsPosition p → set ≡ set_of (holds c King) p.placement → 0 < set
king_in p c set valid e =
    let king = has_king p.placement c valid.placement in
    elim (cases_eq set 0) [
      | inl z ↦
          let empty = sym (set_where (holds c King) p.placement valid.placement.full) ∙ sym e ∙ z in
          let none = where_none (λ s. holds c King (cell_at p.placement s)) king.square empty king.on_board in
          absurd (both_ways (holds c King (cell_at p.placement king.square)) none (is_holds c King (piece_on p king.square) king.stands))
      | inr ne ↦ omega arith
    ]

-- there is no other king of the side
pub one_place : (p : Parts) (c : Colour) (u v : ℕ) → IsPosition p → u < 64 → v < 64 → piece_on p u ≡ man c King → piece_on p v ≡ man c King → u ≡ v
one_place p c u v valid lu lv eu ev =
    let king = has_king p.placement c valid.placement in
    king.only u lu eu ∙ sym (king.only v lv ev)

-- so check is an attack on the king's square
pub king_attacked : (p : Parts) (c : Colour) (k : ℕ) → IsPosition p → k < 64 → piece_on p k ≡ man c King
    → InCheck p.placement c ↔ AttackedBy p.placement (other c) k
king_attacked p c k valid on_board stands = (
  λ w. let at = one_place p c w.square k valid w.on_board on_board w.king stands in rw at at w.attack,
  λ a. record { square = k; on_board = on_board; king = stands; attack = a },
)

-- a king that the move does not touch stays: no king is taken en passant
stays_king : (p : Parts) (m : Triple) (u : ℕ) → IsPosition p → Reaches p m → piece_on p u ≡ man p.turn King → u ≢ m.from → u ≢ m.to
    → cell_after p m u ≡ man p.turn King
stays_king p m u valid w stands off_from off_to =
    elim (moved_cases p m u w.goal) [
      | inl v ↦ absurd (off_to v.square)
      | inr (inl v) ↦ elim v.square [
        | inl f ↦ absurd (off_from f)
        | inr passed ↦
            let pawn = passed_pawn p m valid passed.en_passant in
            let square = ap (λ (s : ℕ). piece_on p s) passed.square in
            absurd (not_other p.turn (one_colour p.turn (other p.turn) King Pawn (sym stands ∙ square ∙ pawn)))
      ]
      | inr (inr v) ↦ v.holds ∙ stands
    ]

-- the king's square after an ordinary move
pub record IsKingAfter (p : Parts) (m : Triple) (square : ℕ) : Type 0 where
  pub on_board : square < 64
  pub stands : cell_at (placement_after p m) square ≡ man p.turn King
  pub only : (u : ℕ) → u < 64 → cell_at (placement_after p m) u ≡ man p.turn King → u ≡ square

pub mover_own : (p : Parts) (m : Triple) → Reaches p m → is_of p.turn (piece_on p m.from) ≡ true
mover_own p m w =
    elim w.goes [
      | inl v ↦ is_own p.turn v.kind (piece_on p m.from) v.mover
      | inr v ↦ is_own p.turn Pawn (piece_on p m.from) v.mover
    ]

king_plain : (p : Parts) (m : Triple) → Reaches p m → piece_on p m.from ≡ man p.turn King → m.promotion ≡ None
king_plain p m w e =
    elim w.goes [
      | inl v ↦ v.no_promotion
      | inr v ↦ absurd (let k = one_kind p.turn p.turn Pawn King (sym v.mover ∙ e) in let f : Pawn ≡ King = k in cc)
    ]

-- a king that lands was a king
landed_king : (c : Colour) (o : Cell) (k : Option Kind) → IsTrue (is_promotion k) → landed o k ≡ man c King → o ≡ man c King
landed_king c o None h e = e
landed_king c None (Some k) h e = cc
landed_king c (Some q) (Some k) h e =
    let is = one_kind q.colour c k King e in
    let bad : is_promotion (Some King) ≡ true = rw is at h in
    absurd cc

pub king_after : (p : Parts) (m : Triple) (king square : ℕ) → IsPosition p → IsMove m → Reaches p m → king < 64
    → piece_on p king ≡ man p.turn King → ((m.from ≡ king) × (square ≡ m.to)) ⊎ ((m.from ≢ king) × (square ≡ king))
    → IsKingAfter p m square
king_after p m king square valid move w in_board stands (inl e) =
    let own = mover_own p m w in
    let to_in = move.to in
    let from_king : piece_on p m.from ≡ man p.turn King = let f = e.0 in rw f stands in
    let plain = king_plain p m w from_king in
    let at = e.1 in
    let cell = cells_after p m m.to to_in in
    record {
      on_board = omega arith;
      stands = rw at (cell ∙ landing p m w.goal ∙ rw plain from_king);
      only = λ u l is.
          elim (moved_cases p m u w.goal) [
            | inl v ↦ v.square ∙ sym at
            | inr (inl v) ↦ absurd (no_man p.turn King (sym v.holds ∙ sym (cells_after p m u l) ∙ is))
            | inr (inr v) ↦
                absurd (v.off_from (one_place p p.turn u m.from valid l move.from (sym v.holds ∙ sym (cells_after p m u l) ∙ is) from_king))
          ];
    }
king_after p m king square valid move w in_board stands (inr e) =
    let at = e.1 in
    let off_to : king ≢ m.to =
    λ f.
    let own = is_own p.turn King (piece_on p king) stands in
    both_ways (goes_to_own p m) w.goal (rw f at own) in
    record {
      on_board = omega arith;
      stands = rw at (cells_after p m king in_board ∙ stays_king p m king valid w stands (λ f. e.0 (sym f)) off_to);
      only = λ u l is.
          elim (moved_cases p m u w.goal) [
            | inl v ↦
                let lands = sym v.holds ∙ sym (cells_after p m u l) ∙ is in
                let was = landed_king p.turn (piece_on p m.from) m.promotion move.promotion lands in
                absurd (e.0 (one_place p p.turn m.from king valid move.from in_board was stands))
            | inr (inl v) ↦ absurd (no_man p.turn King (sym v.holds ∙ sym (cells_after p m u l) ∙ is))
            | inr (inr v) ↦ one_place p p.turn u king valid l in_board (sym v.holds ∙ sym (cells_after p m u l) ∙ is) stands ∙ sym at
          ];
    }

-- so check is an attack on that square
pub check_there : (p : Parts) (m : Triple) (square : ℕ) → IsKingAfter p m square
    → InCheck (placement_after p m) p.turn ↔ AttackedBy (placement_after p m) (other p.turn) square
check_there p m square k = (
  λ w. let at = k.only w.square w.on_board w.king in rw at at w.attack,
  λ a. record { square = square; on_board = k.on_board; king = k.stands; attack = a },
)

-- the answer
pub exposes : (p : Parts) (m : Triple) (square rest : ℕ) → IsKingAfter p m square
    → rest ≡ where_set (λ u. is_of (other p.turn) (cell_at (placement_after p m) u) && attacks (placement_after p m) u square)
    → IsTrue (not (rest == 0)) ↔ InCheck (placement_after p m) p.turn
exposes p m square rest k e =
    let cells = placement_after p m in
    let there = check_there p m square k in (
      λ h. there.1 (some_attacked cells (other p.turn) square rest e (eqb-false rest 0 (not-true (rest == 0) h))),
      λ w. not_from_false (rest == 0) (ne_eqb rest 0 (λ z. none_attacked cells (other p.turn) square rest e z (there.0 w))),
    )

-- ---- The sets after the move.

placed_by : (test : Cell → Bool) (a f ps : Bool) (x y : Cell) → test None ≡ false
    → test (after_by a f ps x y) ≡ ((test y && not (f || (a || ps))) || (test x && a))
placed_by test true true ps x y none = simp (and-false, and-true)
placed_by test true false ps x y none = simp (and-false, and-true)
placed_by test false true ps x y none = none ∙ simp (and-false)
placed_by test false false true x y none = none ∙ simp (and-false)
placed_by test false false false x y none = simp (and-false, and-true, or-false)

-- the goal, if what lands there belongs
pub landing_set : (b : Bool) (byte k : ℕ) → k < 64 → byte ≡ bool_byte b → byte * 2 ^ k % 2 ^ 64 ≡ where_set (λ u. b && (u == k))
landing_set true byte k l e = rw e (where_only k l)
landing_set false byte k l e =
    let none : byte * 2 ^ k % 2 ^ 64 ≡ 0 = rw e (let z : 0 * 2 ^ k ≡ 0 = omega arith in rw z) in
    none ∙ sym (where_nothing (λ u. false) (λ i h. refl))

set_after_is : (test : Cell → Bool) (p : Parts) (m : Triple) (set changed byte : ℕ) → test None ≡ false
    → is_of p.turn (piece_on p m.from) ≡ true → goes_to_own p m ≡ false → length p.placement ≡ 64 → m.to < 64
    → set ≡ set_of test p.placement → changed ≡ where_set (λ u. (u == m.from) || is_gone p m u)
    → byte ≡ bool_byte (test (landed (piece_on p m.from) m.promotion))
    → bit_or (bit_and set (bit_not w64 changed)) (byte * 2 ^ m.to % 2 ^ 64) ≡ set_of test (placement_after p m)
set_after_is test p m set changed byte none own free full l es ec eb =
    let land = landed (piece_on p m.from) m.promotion in
    where_or (λ u. test (piece_on p u) && not ((u == m.from) || is_gone p m u)) (λ u. test land && (u == m.to)) _ _
    (where_and (λ u. test (piece_on p u)) (λ u. not ((u == m.from) || is_gone p m u)) set _ (es ∙ set_where test p.placement full)
    (where_not (λ u. (u == m.from) || is_gone p m u) changed ec))
    (landing_set (test land) byte m.to l eb)
    ∙ where_agree (λ u. (test (piece_on p u) && not ((u == m.from) || is_gone p m u)) || (test land && (u == m.to)))
    (λ u. test (cell_at (placement_after p m) u))
    (λ u h. sym (ap test (cell_is p m own free u h) ∙ placed_by test (u == m.to) (u == m.from) (is_passed_on p m u) land (piece_on p u) none))
    ∙ sym (set_where test (placement_after p m) (full_after p m))

-- all sets after an ordinary move
pub moved_sets : (p : Parts) (m : Triple) (changed : ℕ) → is_of p.turn (piece_on p m.from) ≡ true → goes_to_own p m ≡ false
    → length p.placement ≡ 64 → m.to < 64 → changed ≡ where_set (λ u. (u == m.from) || is_gone p m u)
    → put_on (landed (piece_on p m.from) m.promotion) m.to (taken_off changed (sets_of p.placement)) ≡ sets_of (placement_after p m)
moved_sets p m changed own free full l ec =
    let white = set_after_is (is_of White) p m _ changed _ refl own free full l refl ec refl in
    let black = set_after_is (is_of Black) p m _ changed _ refl own free full l refl ec refl in
    let pawns = set_after_is (is_kind Pawn) p m _ changed _ refl own free full l refl ec refl in
    let knights = set_after_is (is_kind Knight) p m _ changed _ refl own free full l refl ec refl in
    let bishops = set_after_is (is_kind Bishop) p m _ changed _ refl own free full l refl ec refl in
    let rooks = set_after_is (is_kind Rook) p m _ changed _ refl own free full l refl ec refl in
    let queens = set_after_is (is_kind Queen) p m _ changed _ refl own free full l refl ec refl in
    let kings = set_after_is (is_kind King) p m _ changed _ refl own free full l refl ec refl in
    rw (white, black, pawns, knights, bishops, rooks, queens, kings) refl

-- ---- The sets after a move that is no promotion: what lands is what the square held that is left.

set_carried_is : (test : Cell → Bool) (p : Parts) (m : Triple) (changed : ℕ) → test None ≡ false → m.promotion ≡ None
    → is_of p.turn (piece_on p m.from) ≡ true → goes_to_own p m ≡ false → length p.placement ≡ 64 → m.from < 64 → m.to < 64
    → changed ≡ where_set (λ u. (u == m.from) || is_gone p m u)
    → carried changed m.from m.to (set_of test p.placement) ≡ set_of test (placement_after p m)
set_carried_is test p m changed none plain own free full lf lt ec =
    let had = in_where (λ s. test (piece_on p s)) (set_of test p.placement) m.from (set_where test p.placement full) lf in
    set_after_is test p m (set_of test p.placement) changed _ none own free full lt refl ec (rw (plain, had) refl)

-- all sets
pub carried_sets : (p : Parts) (m : Triple) (changed : ℕ) → m.promotion ≡ None → is_of p.turn (piece_on p m.from) ≡ true
    → goes_to_own p m ≡ false → length p.placement ≡ 64 → m.from < 64 → m.to < 64
    → changed ≡ where_set (λ u. (u == m.from) || is_gone p m u)
    → all_carried changed m.from m.to (sets_of p.placement) ≡ sets_of (placement_after p m)
carried_sets p m changed plain own free full lf lt ec =
    let white = set_carried_is (is_of White) p m changed refl plain own free full lf lt ec in
    let black = set_carried_is (is_of Black) p m changed refl plain own free full lf lt ec in
    let pawns = set_carried_is (is_kind Pawn) p m changed refl plain own free full lf lt ec in
    let knights = set_carried_is (is_kind Knight) p m changed refl plain own free full lf lt ec in
    let bishops = set_carried_is (is_kind Bishop) p m changed refl plain own free full lf lt ec in
    let rooks = set_carried_is (is_kind Rook) p m changed refl plain own free full lf lt ec in
    let queens = set_carried_is (is_kind Queen) p m changed refl plain own free full lf lt ec in
    let kings = set_carried_is (is_kind King) p m changed refl plain own free full lf lt ec in
    rw (white, black, pawns, knights, bishops, rooks, queens, kings) refl
