-- A side that stands on its home rank behind the full rank of its pawns attacks no square of the far rank: each line to it
-- crosses the pawns' rank, and no leap is so long.
use Rattle.std.proofs.Common.{◌≡◌, ◌≢◌, ℕ, ◌<◌, List, Bool, true, false, ◌&&◌, None, refl, sym, ◌∙◌, ap, arith, ◌⊎◌, inl, inr}
use Rattle.std.specs.Prelude.{◌==◌}
use Rattle.std.specs.List.{list_any, list_all}
use Rattle.std.proofs.lemmas.Bool.{and_parts, and_from, eqb-true, eq-eqb}
use Rattle.c960_board.specs.declared.piece.Colour.{Colour}
use Rattle.c960_board.specs.declared.piece.Colour.TheVariants.{White, Black}
use Rattle.c960_board.specs.declared.piece.Kind.{Kind}
use Rattle.c960_board.specs.declared.piece.Kind.TheVariants.{Pawn, Knight, Bishop, Rook, Queen, King}
use Rattle.c960_board.specs.Squares.{rank_of, home_rank}
use Rattle.c960_board.specs.Pieces.{Cell, man, other}
use Rattle.c960_board.specs.Cells.{cell_at}
use Rattle.c960_rules.specs.Lines.{squares, rank_distance, on_line, between}
use Rattle.c960_rules.specs.Attacks.{Clear, IsForward, AttacksAs, AttackedBy}
use Rattle.c960_rules.specs.Check.{InCheck}
use Rattle.c960_rules.specs.Reaches.{pawn_rank, last_rank}
use Rattle.c960_rules.proofs.AllSquares.{every_square, found_square}
use Rattle.c960_board.proofs.lemmas.Tests.{implied_tells}
use Rattle.c960_rules.proofs.lemmas.PieceFacts.{other_other}

-- ---- A line from the home rank to the far rank crosses the pawns' rank: checked by computation over all squares.

-- whether the line from s to t crosses the pawns' rank on u
unfoldable is_crossing : Colour → ℕ → ℕ → ℕ → Bool
is_crossing c s t u = between s u t && (rank_of u == pawn_rank c)

-- whether s and t, on the home rank and the far one, lie on one line
unfoldable is_across : Colour → ℕ → ℕ → Bool
is_across c s t = (rank_of s == home_rank c) && ((rank_of t == last_rank c) && on_line s t)

-- whether a line across has a crossing
unfoldable has_crossing : Colour → ℕ → ℕ → Bool
has_crossing c s t = elim (is_across c s t) [ true ↦ list_any (is_crossing c s t) squares | false ↦ true ]

-- whether each line across from s has one
unfoldable all_cross_from : Colour → ℕ → Bool
all_cross_from c s = list_all (has_crossing c s) squares

-- all of them have one
all_cross : (c : Colour) → list_all (all_cross_from c) squares ≡ true
unfolding all_cross_from has_crossing is_across is_crossing
all_cross White = refl
all_cross Black = refl

-- where a line crosses the pawns' rank
record Crossing (c : Colour) (s t : ℕ) : Type 0 where
  square : ℕ
  on_board : square < 64
  on_the_way : between s square t ≡ true
  on_rank : rank_of square ≡ pawn_rank c

-- each line across crosses the pawns' rank
crossing : (c : Colour) (s t : ℕ) → s < 64 → t < 64 → rank_of s ≡ home_rank c → rank_of t ≡ last_rank c
    → on_line s t ≡ true → Crossing c s t
unfolding all_cross_from has_crossing is_across is_crossing
crossing c s t s_on_board t_on_board home far line =
    let row = every_square (all_cross_from c) (all_cross c) s s_on_board in
    let cell = every_square (has_crossing c s) row t t_on_board in
    let ends = and_from (rank_of t == last_rank c) (on_line s t) (eq-eqb (rank_of t) (last_rank c) far) line in
    let across = and_from (rank_of s == home_rank c) _ (eq-eqb (rank_of s) (home_rank c) home) ends in
    let w = found_square (is_crossing c s t)
    (implied_tells (is_across c s t) (list_any (is_crossing c s t) squares) cell across) in
    let v = and_parts (between s w.0 t) (rank_of w.0 == pawn_rank c) w.2 in
    record { square = w.0; on_board = w.1; on_the_way = v.0; on_rank = eqb-true (rank_of w.0) (pawn_rank c) v.1 }

-- ---- Behind such a rank.

-- a rank on which a piece of the side may be
abbrev pub IsBehind : Colour → Kind → ℕ → Type 0
IsBehind c k r = (r ≡ home_rank c) ⊎ ((r ≡ pawn_rank c) × (k ≡ Pawn))

-- The pawns' rank is full, and every piece of the side is on its home rank or is a pawn on the pawns' rank.
pub record IsWalled (cells : List Cell) (c : Colour) : Type 0 where
  pub full : (u : ℕ) → u < 64 → rank_of u ≡ pawn_rank c → cell_at cells u ≢ None
  pub behind : (s : ℕ) (k : Kind) → s < 64 → cell_at cells s ≡ man c k → IsBehind c k (rank_of s)

-- no line from the home rank to the far rank is open
closed : (cells : List Cell) (c : Colour) (s t : ℕ) → IsWalled cells c → s < 64 → t < 64 → rank_of s ≡ home_rank c
    → rank_of t ≡ last_rank c → Clear cells s t → ⊥
closed cells c s t wall s_on_board t_on_board home far open_line =
    let w = crossing c s t s_on_board t_on_board home far open_line.line in
    wall.full w.square w.on_board w.on_rank (open_line.vacant w.square w.on_board w.on_the_way)

-- the ranks of a side are far from the far rank
far_apart : (c : Colour) (s t : ℕ) → rank_of s ≡ home_rank c → rank_of t ≡ last_rank c → rank_distance s t ≡ 7
far_apart White s t home far = omega arith
far_apart Black s t home far = omega arith

-- a pawn of either rank is more than one rank away
not_forward : (c : Colour) (s t : ℕ) → (rank_of s ≡ home_rank c) ⊎ (rank_of s ≡ pawn_rank c) → rank_of t ≡ last_rank c
    → IsForward c s t → ⊥
not_forward White s t (inl e) far h = omega arith
not_forward White s t (inr e) far h = omega arith
not_forward Black s t (inl e) far h = omega arith
not_forward Black s t (inr e) far h = omega arith

-- no piece of the home rank attacks the far rank
no_attack_home : (cells : List Cell) (c : Colour) (k : Kind) (s t : ℕ) → IsWalled cells c → s < 64 → t < 64
    → rank_of s ≡ home_rank c → rank_of t ≡ last_rank c → AttacksAs cells c k s t → ⊥
no_attack_home cells c Pawn s t wall l m home far w = not_forward c s t (inl home) far w.1
no_attack_home cells c Knight s t wall l m home far w =
    let apart = far_apart c s t home far in
    elim w [ inl v ↦ let two = v.1 in omega arith | inr v ↦ let one = v.1 in omega arith ]
no_attack_home cells c Bishop s t wall l m home far w = closed cells c s t wall l m home far w.1
no_attack_home cells c Rook s t wall l m home far w = closed cells c s t wall l m home far w.1
no_attack_home cells c Queen s t wall l m home far w = closed cells c s t wall l m home far w
no_attack_home cells c King s t wall l m home far w = let apart = far_apart c s t home far in omega arith

-- no piece of the side attacks the far rank
pub no_attack : (cells : List Cell) (c : Colour) (t : ℕ) → IsWalled cells c → t < 64 → rank_of t ≡ last_rank c
    → AttackedBy cells c t → ⊥
no_attack cells c t wall l far w =
    elim (wall.behind w.from w.kind w.on_board w.piece) [
      | inl home ↦ no_attack_home cells c w.kind w.from t wall w.on_board l home far w.way
      | inr v ↦
          let way = rw v.1 at w.way in
          not_forward c w.from t (inr v.0) far way.1
    ]

-- a king on its home rank is not in check
pub no_check : (cells : List Cell) (c : Colour) → IsWalled cells (other c)
    → ((s : ℕ) → s < 64 → cell_at cells s ≡ man c King → rank_of s ≡ home_rank c) → InCheck cells c → ⊥
no_check cells c wall home w =
    let far = home w.square w.on_board w.king ∙ sym (ap home_rank (other_other c)) in
    no_attack cells (other c) w.square wall w.on_board far w.attack
