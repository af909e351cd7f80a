-- The tests of attacks and of check say what their relations say.
use Rattle.std.proofs.Common.{◌≡◌, ℕ, ◌+◌, List, Bool, true, false, ◌&&◌, ◌||◌, not, Some, None, refl, ◌⊎◌, inl, inr}
use Rattle.std.specs.Prelude.{◌==◌, is_none, max}
use Rattle.std.specs.List.{list_all}
use Rattle.std.proofs.lemmas.Bool.{and_parts, and_from, or_cases, or_left, or_right, not-true, not_from_false, eqb-true, eqb-false, eq-eqb, ne_eqb}
use Rattle.c960_board.specs.declared.piece.Colour.{Colour}
use Rattle.c960_board.specs.declared.piece.Colour.TheVariants.{White, Black}
use Rattle.c960_board.specs.declared.piece.Kind.{Kind}
use Rattle.c960_board.specs.declared.piece.Kind.TheVariants.{Pawn, Knight, Bishop, Rook, Queen, King}
use Rattle.c960_board.specs.Squares.{rank_of}
use Rattle.c960_board.specs.Pieces.{Cell, other, is_of, holds}
use Rattle.c960_board.specs.Cells.{cell_at}
use Rattle.c960_rules.specs.Lines.{squares, file_distance, rank_distance, same_rank, same_file, same_diagonal, on_line, between}
use Rattle.c960_rules.specs.Attacks.{Clear, IsForward, AttacksAs, Attacks, AttackedBy}
use Rattle.c960_rules.specs.Tests.Attacks.{is_open_at, clear, is_forward, attacks_as, attacks_with, attacks, attacked_by}
use Rattle.c960_rules.specs.Check.{InCheck}
use Rattle.c960_rules.specs.Tests.Check.{in_check}
use Rattle.c960_rules.proofs.AllSquares.{every_square, every_square_from, found_square, some_square}
use Rattle.c960_rules.proofs.lemmas.PieceFacts.{own_is, is_own, holds_is, is_holds}
use Rattle.c960_board.proofs.lemmas.Tests.{none_is, is_none_of, implied_tells, implied_from, so_parts, then_so}
use Rattle.c960_rules.proofs.AttackWays.{attacked_from}

-- an open square, from its test
open_tells : (cells : List Cell) (s t u : ℕ) → is_open_at cells s t u ≡ true → between s u t ≡ true
    → cell_at cells u ≡ None
unfolding is_open_at
open_tells cells s t u h on = none_is (cell_at cells u) (implied_tells (between s u t) (is_none (cell_at cells u)) h on)

-- and to its test
open_from : (cells : List Cell) (s t u : ℕ) → (between s u t ≡ true → cell_at cells u ≡ None)
    → is_open_at cells s t u ≡ true
unfolding is_open_at
open_from cells s t u h =
    implied_from (between s u t) (is_none (cell_at cells u)) (λ on. is_none_of (cell_at cells u) (h on))

-- an open line, from its test
pub clear_tells : (cells : List Cell) (s t : ℕ) → on_line s t ≡ true → clear cells s t ≡ true → Clear cells s t
unfolding clear
clear_tells cells s t line h =
    let w = and_parts (not (s == t)) (list_all (is_open_at cells s t) squares) h in
    record {
      differ = eqb-false s t (not-true (s == t) w.0);
      line = line;
      vacant = λ u l. open_tells cells s t u (every_square (is_open_at cells s t) w.1 u l);
    }

-- and to its test
pub clear_from : (cells : List Cell) (s t : ℕ) → Clear cells s t → clear cells s t ≡ true
unfolding clear
clear_from cells s t w =
    and_from (not (s == t)) (list_all (is_open_at cells s t) squares) (not_from_false (s == t) (ne_eqb s t w.differ))
    (every_square_from (is_open_at cells s t) (λ u l. open_from cells s t u (w.vacant u l)))

-- one rank forward, from its test
pub forward_tells : (c : Colour) (s t : ℕ) → is_forward c s t ≡ true → IsForward c s t
forward_tells White s t h = eqb-true (rank_of t) (rank_of s + 1) h
forward_tells Black s t h = eqb-true (rank_of s) (rank_of t + 1) h

-- and to its test
pub forward_from : (c : Colour) (s t : ℕ) → IsForward c s t → is_forward c s t ≡ true
forward_from White s t h = eq-eqb (rank_of t) (rank_of s + 1) h
forward_from Black s t h = eq-eqb (rank_of s) (rank_of t + 1) h

-- a diagonal is a line
on_diagonal : (s t : ℕ) → same_diagonal s t ≡ true → on_line s t ≡ true
on_diagonal s t h =
    or_right (same_rank s t) (same_file s t || same_diagonal s t) (or_right (same_file s t) (same_diagonal s t) h)

-- a rank or a file is a line
on_straight : (s t : ℕ) → (same_rank s t || same_file s t) ≡ true → on_line s t ≡ true
on_straight s t h =
    elim (or_cases (same_rank s t) (same_file s t) h) [
      | inl e ↦ or_left (same_rank s t) (same_file s t || same_diagonal s t) e
      | inr e ↦
          let either = or_left (same_file s t) (same_diagonal s t) e in
          or_right (same_rank s t) (same_file s t || same_diagonal s t) either
    ]

-- one of a knight's two leaps, from its test
leap_tells : (f r : ℕ) → (((f == 1) && (r == 2)) || ((f == 2) && (r == 1))) ≡ true
    → ((f ≡ 1) × (r ≡ 2)) ⊎ ((f ≡ 2) × (r ≡ 1))
leap_tells f r h =
    elim (or_cases ((f == 1) && (r == 2)) ((f == 2) && (r == 1)) h) [
      | inl e ↦ let w = and_parts (f == 1) (r == 2) e in inl (eqb-true f 1 w.0, eqb-true r 2 w.1)
      | inr e ↦ let w = and_parts (f == 2) (r == 1) e in inr (eqb-true f 2 w.0, eqb-true r 1 w.1)
    ]

-- and to its test
leap_from : (f r : ℕ) → ((f ≡ 1) × (r ≡ 2)) ⊎ ((f ≡ 2) × (r ≡ 1))
    → (((f == 1) && (r == 2)) || ((f == 2) && (r == 1))) ≡ true
leap_from f r (inl w) =
    let both = and_from (f == 1) (r == 2) (eq-eqb f 1 w.0) (eq-eqb r 2 w.1) in
    or_left ((f == 1) && (r == 2)) ((f == 2) && (r == 1)) both
leap_from f r (inr w) =
    let both = and_from (f == 2) (r == 1) (eq-eqb f 2 w.0) (eq-eqb r 1 w.1) in
    or_right ((f == 1) && (r == 2)) ((f == 2) && (r == 1)) both

-- how a kind attacks, from its test
pub way_tells : (cells : List Cell) (c : Colour) (k : Kind) (s t : ℕ) → attacks_as cells c k s t ≡ true
    → AttacksAs cells c k s t
way_tells cells c Pawn s t h =
    let w = and_parts (file_distance s t == 1) (is_forward c s t) h in
    (eqb-true (file_distance s t) 1 w.0, forward_tells c s t w.1)
way_tells cells c Knight s t h = leap_tells (file_distance s t) (rank_distance s t) h
way_tells cells c Bishop s t h =
    let w = so_parts (same_diagonal s t) (clear cells s t) h in
    (w.0, clear_tells cells s t (on_diagonal s t w.0) w.1)
way_tells cells c Rook s t h =
    let w = so_parts (same_rank s t || same_file s t) (clear cells s t) h in
    (w.0, clear_tells cells s t (on_straight s t w.0) w.1)
way_tells cells c Queen s t h = let w = so_parts (on_line s t) (clear cells s t) h in clear_tells cells s t w.0 w.1
way_tells cells c King s t h = eqb-true (max (file_distance s t) (rank_distance s t)) 1 h

-- and to its test
pub way_from : (cells : List Cell) (c : Colour) (k : Kind) (s t : ℕ) → AttacksAs cells c k s t
    → attacks_as cells c k s t ≡ true
way_from cells c Pawn s t w =
    let beside = eq-eqb (file_distance s t) 1 w.0 in
    and_from (file_distance s t == 1) (is_forward c s t) beside (forward_from c s t w.1)
way_from cells c Knight s t w = leap_from (file_distance s t) (rank_distance s t) w
way_from cells c Bishop s t w = then_so (same_diagonal s t) (clear cells s t) w.0 (clear_from cells s t w.1)
way_from cells c Rook s t w = then_so (same_rank s t || same_file s t) (clear cells s t) w.0 (clear_from cells s t w.1)
way_from cells c Queen s t w = then_so (on_line s t) (clear cells s t) w.line (clear_from cells s t w)
way_from cells c King s t w = eq-eqb (max (file_distance s t) (rank_distance s t)) 1 w

-- the attack of the piece on s, from its test
cell_tells : (cells : List Cell) (s t : ℕ) (o : Cell) → cell_at cells s ≡ o → attacks_with cells o s t ≡ true
    → Attacks cells s t
cell_tells cells s t None e h = cc
cell_tells cells s t (Some p) e h =
    record { colour = p.colour; kind = p.kind; piece = e; way = way_tells cells p.colour p.kind s t h }

-- an attack, from its test
pub attacks_tells : (cells : List Cell) (s t : ℕ) → attacks cells s t ≡ true → Attacks cells s t
unfolding attacks
attacks_tells cells s t h = cell_tells cells s t (cell_at cells s) refl h

-- and to its test
pub attacks_from : (cells : List Cell) (s t : ℕ) → Attacks cells s t → attacks cells s t ≡ true
unfolding attacks
attacks_from cells s t w =
    let piece = w.piece in
    rw piece (way_from cells w.colour w.kind s t w.way)

-- whether the piece on s is of the colour and attacks t
is_attacker : List Cell → Colour → ℕ → ℕ → Bool
is_attacker cells c t s = elim (is_of c (cell_at cells s)) [ true ↦ attacks cells s t | false ↦ false ]

-- a square attacked by a side, from its test
pub attacked_by_tells : (cells : List Cell) (c : Colour) (t : ℕ) → attacked_by cells c t ≡ true → AttackedBy cells c t
unfolding attacked_by is_attacker
attacked_by_tells cells c t h =
    let w = found_square (is_attacker cells c t) h in
    let v = so_parts (is_of c (cell_at cells w.0)) (attacks cells w.0 t) w.2 in
    let own = own_is c (cell_at cells w.0) v.0 in
    attacked_from cells c own.kind w.0 t w.1 own.is (attacks_tells cells w.0 t v.1)

-- and to its test
pub attacked_by_from : (cells : List Cell) (c : Colour) (t : ℕ) → AttackedBy cells c t → attacked_by cells c t ≡ true
unfolding attacked_by is_attacker
attacked_by_from cells c t w =
    let own = is_own c w.kind (cell_at cells w.from) w.piece in
    let attack = attacks_from cells w.from t (record { colour = c; kind = w.kind; piece = w.piece; way = w.way }) in
    let both = then_so (is_of c (cell_at cells w.from)) (attacks cells w.from t) own attack in
    some_square (is_attacker cells c t) w.from w.on_board both

-- whether a king of the side is on s and is attacked
is_checked_on : List Cell → Colour → ℕ → Bool
is_checked_on cells c s = elim (holds c King (cell_at cells s)) [ true ↦ attacked_by cells (other c) s | false ↦ false ]

-- check, from its test
pub check_tells : (cells : List Cell) (c : Colour) → in_check cells c ≡ true → InCheck cells c
unfolding in_check is_checked_on
check_tells cells c h =
    let w = found_square (is_checked_on cells c) h in
    let v = so_parts (holds c King (cell_at cells w.0)) (attacked_by cells (other c) w.0) w.2 in
    record {
      square = w.0;
      on_board = w.1;
      king = holds_is c King (cell_at cells w.0) v.0;
      attack = attacked_by_tells cells (other c) w.0 v.1;
    }

-- and to its test
pub check_from : (cells : List Cell) (c : Colour) → InCheck cells c → in_check cells c ≡ true
unfolding in_check is_checked_on
check_from cells c w =
    let king = is_holds c King (cell_at cells w.square) w.king in
    let attack = attacked_by_from cells (other c) w.square w.attack in
    let both = then_so (holds c King (cell_at cells w.square)) (attacked_by cells (other c) w.square) king attack in
    some_square (is_checked_on cells c) w.square w.on_board both
