-- Attacks by sets are the attacks of the rules.
use Rattle.std.proofs.Common.{◌≡◌, ◌≢◌, ℕ, ◌<◌, Bool, true, false, not, ◌&&◌, ◌||◌, List, Some, None, length, refl, ap, sym, ◌∙◌, IsTrue}
use Rattle.std.specs.Prelude.{◌==◌, is_none, bit_and, ◌↔◌}
use Rattle.std.specs.Int.{bit_at}
use Rattle.std.specs.List.{list_all, list_any}
use Rattle.std.proofs.lemmas.Bool.Decides.{same_from_decides}
use Rattle.std.proofs.lemmas.Bool.{eq-eqb, eqb-true, and_parts, and_from, both_ways, false_from_ne_true}
use Rattle.c960_board.specs.declared.piece.Colour.{Colour}
use Rattle.c960_board.specs.declared.piece.Kind.{Kind}
use Rattle.c960_board.specs.declared.piece.Kind.TheVariants.{Pawn, Knight, Bishop, Rook, Queen, King}
use Rattle.c960_board.specs.Pieces.{Cell, is_of}
use Rattle.c960_board.specs.Cells.{cell_at}
use Rattle.c960_board.specs.Sets.{is_occupied, set_of}
use Rattle.c960_rules.specs.Lines.{squares, same_rank, same_file, same_diagonal, between}
use Rattle.c960_rules.specs.Attacks.{Attacks, AttackedBy}
use Rattle.c960_rules.specs.Tests.Attacks.{is_open_at, clear, attacks_as, attacks_with, attacks, attacked_by}
use Rattle.c960_rules.specs.Inner.Wheres.{where_set, is_free, is_attacker_on, attacks_over, attacks_over_as}
use Rattle.c960_rules.proofs.AllSquares.{every_square, every_square_from, found_square, some_square}
use Rattle.c960_rules.proofs.lemmas.AttackTests.{attacks_tells, attacks_from, attacked_by_tells, attacked_by_from}
use Rattle.c960_rules.proofs.WhereFacts.{where_and, where_agree, where_none, where_nothing, set_where, in_where}

-- a square between that is not occupied is open
open_bits : (b : Bool) (o : Cell) → (b && is_occupied o) ≡ false → elim b as (λ _. Bool) [ true ↦ is_none o | false ↦ true ] ≡ true
open_bits true None e = refl
open_bits true (Some p) e = cc
open_bits false o e = refl

closed_bits : (b : Bool) (o : Cell) → elim b as (λ _. Bool) [ true ↦ is_none o | false ↦ true ] ≡ true → (b && is_occupied o) ≡ false
closed_bits true None e = refl
closed_bits true (Some p) e = cc
closed_bits false o e = refl

-- the way is free if each square between is open
pub free_open : (cells : List Cell) (occupied s t : ℕ) → occupied ≡ where_set (λ u. is_occupied (cell_at cells u))
    → is_free occupied s t ≡ list_all (is_open_at cells s t) squares
unfolding is_free is_open_at
free_open cells occupied s t e =
    let b = λ (u : ℕ). between s u t in
    let o = λ (u : ℕ). is_occupied (cell_at cells u) in
    let both : bit_and (where_set b) occupied ≡ where_set (λ u. b u && o u) = where_and b o (where_set b) occupied refl e in
    let free : Bool = bit_and (where_set b) occupied == 0 in
    let each : Bool = list_all (is_open_at cells s t) squares in
    same_from_decides {P = each ≡ true} free each (
      λ h.
          let none = sym both ∙ eqb-true (bit_and (where_set b) occupied) 0 h in
          every_square_from (is_open_at cells s t)
          (λ u l. open_bits (between s u t) (cell_at cells u) (where_none (λ v. b v && o v) u none l)),
      λ h.
          eq-eqb (bit_and (where_set b) occupied) 0
          (both ∙ where_nothing (λ u. b u && o u)
          (λ u l. closed_bits (between s u t) (cell_at cells u) (every_square (is_open_at cells s t) h u l))),
    ) (λ e. e, λ e. e)

-- along a line, if the way is free
line_bits : (d n f a : Bool) → f ≡ a → elim d as (λ _. Bool) [ true ↦ n && a | false ↦ false ] ≡ ((n && d) && f)
line_bits true true f a e = sym e
line_bits true false f a e = refl
line_bits false true f a e = refl
line_bits false false f a e = refl

any_bits : (r l d n f a : Bool) → f ≡ a
    → elim (r || (l || d)) as (λ _. Bool) [ true ↦ n && a | false ↦ false ] ≡ (((n && (r || l)) || (n && d)) && f)
any_bits true l d true f a e = sym e
any_bits false true d true f a e = sym e
any_bits false false true true f a e = sym e
any_bits false false false true f a e = refl
any_bits true l d false f a e = refl
any_bits false true d false f a e = refl
any_bits false false true false f a e = refl
any_bits false false false false f a e = refl

-- the attack of a piece, by its kind
as_over : (cells : List Cell) (occupied : ℕ) (c : Colour) (k : Kind) (s t : ℕ)
    → occupied ≡ where_set (λ u. is_occupied (cell_at cells u)) → attacks_as cells c k s t ≡ attacks_over_as occupied c k s t
unfolding clear
as_over cells occupied c Pawn s t e = refl
as_over cells occupied c Knight s t e = refl
as_over cells occupied c Bishop s t e =
    line_bits (same_diagonal s t) (not (s == t)) (is_free occupied s t) (list_all (is_open_at cells s t) squares) (free_open cells occupied s t e)
as_over cells occupied c Rook s t e =
    line_bits (same_rank s t || same_file s t) (not (s == t)) (is_free occupied s t) (list_all (is_open_at cells s t) squares) (free_open cells occupied s t e)
as_over cells occupied c Queen s t e =
    any_bits (same_rank s t) (same_file s t) (same_diagonal s t) (not (s == t)) (is_free occupied s t) (list_all (is_open_at cells s t) squares) (free_open cells occupied s t e)
as_over cells occupied c King s t e = refl

with_over : (cells : List Cell) (occupied : ℕ) (o : Cell) (s t : ℕ)
    → occupied ≡ where_set (λ u. is_occupied (cell_at cells u)) → attacks_with cells o s t ≡ attacks_over occupied o s t
with_over cells occupied None s t e = refl
with_over cells occupied (Some p) s t e = as_over cells occupied p.colour p.kind s t e

-- the attack of the piece on s
pub attacks_agree : (cells : List Cell) (occupied s t : ℕ) → length cells ≡ 64 → occupied ≡ set_of is_occupied cells
    → attacks cells s t ≡ attacks_over occupied (cell_at cells s) s t
unfolding attacks
attacks_agree cells occupied s t full e = with_over cells occupied (cell_at cells s) s t (e ∙ set_where is_occupied cells full)

-- the attackers of a square
pub attackers_are : (cells : List Cell) (occupied : ℕ) (by : Colour) (t set : ℕ) → length cells ≡ 64
    → occupied ≡ set_of is_occupied cells → set ≡ where_set (λ s. is_attacker_on cells occupied by s t)
    → set ≡ where_set (λ s. is_of by (cell_at cells s) && attacks cells s t)
attackers_are cells occupied by t set full e es =
    es ∙ where_agree (λ s. is_attacker_on cells occupied by s t) (λ s. is_of by (cell_at cells s) && attacks cells s t)
    (λ s l. ap (λ (b : Bool). is_of by (cell_at cells s) && b) (sym (attacks_agree cells occupied s t full e)))

-- bit by bit
pub attacker_bit : (cells : List Cell) (by : Colour) (t set s : ℕ)
    → set ≡ where_set (λ u. is_of by (cell_at cells u) && attacks cells u t) → s < 64
    → (bit_at set s ≡ 1) ↔ (IsTrue (is_of by (cell_at cells s)) × Attacks cells s t)
attacker_bit cells by t set s e l =
    let on = in_where (λ u. is_of by (cell_at cells u) && attacks cells u t) set s e l in (
      λ h.
          let both = and_parts (is_of by (cell_at cells s)) (attacks cells s t) (sym on ∙ eq-eqb (bit_at set s) 1 h) in
          (both.0, attacks_tells cells s t both.1),
      λ w.
          eqb-true (bit_at set s) 1
          (on ∙ and_from (is_of by (cell_at cells s)) (attacks cells s t) w.0 (attacks_from cells s t w.1)),
    )

and_elim : (a b : Bool) → elim a as (λ _. Bool) [ true ↦ b | false ↦ false ] ≡ (a && b)
and_elim true b = refl
and_elim false b = refl

-- if the set of attackers is empty, there is no attack
pub none_attacked : (cells : List Cell) (by : Colour) (t set : ℕ)
    → set ≡ where_set (λ u. is_of by (cell_at cells u) && attacks cells u t) → set ≡ 0 → AttackedBy cells by t → ⊥
unfolding attacked_by
none_attacked cells by t set e z w =
    let test = λ (s : ℕ). elim (is_of by (cell_at cells s)) as (λ _. Bool) [ true ↦ attacks cells s t | false ↦ false ] in
    let found = found_square test (attacked_by_from cells by t w) in
    let no = where_none (λ u. is_of by (cell_at cells u) && attacks cells u t) found.0 (sym e ∙ z) found.1 in
    both_ways (test found.0) (and_elim (is_of by (cell_at cells found.0)) (attacks cells found.0 t) ∙ no) found.2

-- a test that does not fail everywhere passes somewhere
any_or_none : (test : ℕ → Bool) → (((u : ℕ) → u < 64 → test u ≡ false) → ⊥) → list_any test squares ≡ true
any_or_none test h =
    elim (list_any test squares) as (λ b. list_any test squares ≡ b → b ≡ true) [
      | true ↦ λ e. refl
      | false ↦ λ e. absurd (h (λ u l. false_from_ne_true (test u) (λ t. both_ways (list_any test squares) e (some_square test u l t))))
    ] refl

-- if the set of attackers is not empty, there is an attack
pub some_attacked : (cells : List Cell) (by : Colour) (t set : ℕ)
    → set ≡ where_set (λ u. is_of by (cell_at cells u) && attacks cells u t) → set ≢ 0 → AttackedBy cells by t
unfolding attacked_by
some_attacked cells by t set e z =
    let test = λ (s : ℕ). elim (is_of by (cell_at cells s)) as (λ _. Bool) [ true ↦ attacks cells s t | false ↦ false ] in
    attacked_by_tells cells by t
    (any_or_none test
    (λ none. z (e ∙ where_nothing (λ u. is_of by (cell_at cells u) && attacks cells u t)
    (λ u l. sym (and_elim (is_of by (cell_at cells u)) (attacks cells u t)) ∙ none u l))))
