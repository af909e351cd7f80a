-- Castling goes to a rook that the king sees along its rank, and only where a right is left.
use Rattle.std.proofs.Common.{◌≡◌, ◌≢◌, ℕ, ◌<◌, ◌≤◌, Bool, true, false, not, ◌&&◌, ◌||◌, nat_lt, List, Option, None, refl, ap, sym, ◌∙◌, inl, inr, arith, get_or}
use Rattle.std.proofs.Math.ListN.{replicate}
use Rattle.std.specs.Prelude.{◌==◌, bit_and, min, max}
use Rattle.std.specs.Bool.{beq}
use Rattle.std.specs.Cmp.{booleans_Decides}
use Rattle.std.specs.Cmp.Lexicographic.{pointwise}
use Rattle.std.proofs.lemmas.Bool.{and_from, and_parts, or_left, or_right, not_from_false, both_ways, cases_lt, lt-ltb, le-ltb, ltb-true, eqb-true, eq-eqb, ne_eqb}
use Rattle.std.proofs.lemmas.List.{get_or-replicate}
use Rattle.std.proofs.lemmas.Slice.Eq.{slice_eq-Decides}
use Rattle.c960_board.specs.declared.piece.Colour.{Colour}
use Rattle.c960_board.specs.declared.piece.Kind.{Kind}
use Rattle.c960_board.specs.declared.piece.Kind.TheVariants.{Rook, King}
use Rattle.c960_board.specs.declared.parts.Parts.{Parts}
use Rattle.c960_board.specs.Cells.{cell_at, has_right, rights_of}
use Rattle.c960_board.specs.Moves.{Triple}
use Rattle.c960_board.specs.Pieces.{Cell, is_of}
use Rattle.c960_board.specs.Position.{IsPosition}
use Rattle.c960_board.specs.Sets.{is_in, is_kind, is_occupied}
use Rattle.c960_board.specs.Squares.{file_of, rank_of, home_rank, home_square}
use Rattle.c960_rules.specs.Castles.{Castles, king_goal, rook_goal, king_file, rook_file, spans, on_way}
use Rattle.c960_rules.specs.Inner.Listing.{triple}
use Rattle.c960_rules.specs.Inner.Rays.{is_east, is_west, below, above}
use Rattle.c960_rules.specs.Inner.Wheres.{where_set, is_free, is_rook_line}
use Rattle.c960_rules.specs.Lines.{same_rank, same_file, between}
use Rattle.c960_rules.proofs.CastlingFacts.{castling, file_bound}
use Rattle.c960_rules.proofs.RayTables.{IsRay, east_ray, west_ray}
use Rattle.c960_rules.proofs.WayCandidates.{castle_rook}
use Rattle.c960_rules.proofs.WhereFacts.{in_where, where_and, where_nothing}
use Rattle.c960_rules.proofs.lemmas.PieceFacts.{piece_on, one_kind}

-- ---- What is between the king and the rook is on one of the two ways.

-- a way goes over all squares between its ends
spans_over : (s t u : ℕ) → min s t ≤ u → u ≤ max s t → spans s t u ≡ true
spans_over s t u low high =
    and_from (not (nat_lt u (min s t))) (not (nat_lt (max s t) u)) (not_from_false (nat_lt u (min s t)) (le-ltb u (min s t) low))
    (not_from_false (nat_lt (max s t) u) (le-ltb (max s t) u high))

-- on the g side it is on the king's, which ends on the g file
on_g_side : (c : Colour) (m : Triple) (u : ℕ) → rank_of m.from ≡ home_rank c → m.to ≡ home_square c (file_of m.to)
    → file_of m.from < file_of m.to → m.from < u → u < m.to → on_way c m u ≡ true
on_g_side c m u home rook side low high =
    let goal : king_goal c m ≡ home_square c 6 =
    ap (λ (b : Bool). home_square c (king_file b)) (lt-ltb (file_of m.from) (file_of m.to) side) in
    or_left (spans m.from (king_goal c m) u) (spans m.to (rook_goal c m) u)
    (spans_over m.from (king_goal c m) u (omega arith) (omega arith))

-- on the c side on the king's down to the c file, and on the rook's below it
on_c_side : (c : Colour) (m : Triple) (u : ℕ) → rank_of m.from ≡ home_rank c → m.to ≡ home_square c (file_of m.to)
    → file_of m.to < file_of m.from → m.to < u → u < m.from → on_way c m u ≡ true
on_c_side c m u home rook side low high =
    let is = le-ltb (file_of m.from) (file_of m.to) (omega arith) in
    let king : king_goal c m ≡ home_square c 2 = ap (λ (b : Bool). home_square c (king_file b)) is in
    let goal : rook_goal c m ≡ home_square c 3 = ap (λ (b : Bool). home_square c (rook_file b)) is in
    elim (cases_lt u (home_square c 2)) [
      | inl under ↦
          or_right (spans m.from (king_goal c m) u) (spans m.to (rook_goal c m) u)
          (spans_over m.to (rook_goal c m) u (omega arith) (omega arith))
      | inr over ↦
          or_left (spans m.from (king_goal c m) u) (spans m.to (rook_goal c m) u)
          (spans_over m.from (king_goal c m) u (omega arith) (omega arith))
    ]

-- ---- So the way between them is free.

vacant_bits : (r b : Bool) (o : Cell) → (r ≡ true → b ≡ true → o ≡ None) → ((r && b) && is_occupied o) ≡ false
vacant_bits true true o h = ap is_occupied (h refl refl)
vacant_bits true false o h = refl
vacant_bits false b o h = refl

-- the way along a ray is free if the squares before its end are vacant
free_along : (ray before : ℕ → ℕ → Bool) (cells : List Cell) (s t occupied : ℕ) → IsRay ray before
    → occupied ≡ where_set (λ u. is_occupied (cell_at cells u)) → s < 64 → t < 64 → ray s t ≡ true
    → ((u : ℕ) → u < 64 → ray s u ≡ true → before u t ≡ true → cell_at cells u ≡ None) → is_free occupied s t ≡ true
unfolding is_free
free_along ray before cells s t occupied w e ls lt on vacant =
    let near = λ (u : ℕ). ray s u && before u t in
    let o = λ (u : ℕ). is_occupied (cell_at cells u) in
    let way : where_set (λ u. between s u t) ≡ where_set near =
    w.near s t ls lt on ∙ where_and (ray s) (λ u. before u t) (where_set (ray s)) (where_set (λ u. before u t)) refl refl in
    eq-eqb (bit_and (where_set (λ u. between s u t)) occupied) 0
    (where_and near o (where_set (λ u. between s u t)) occupied way e
    ∙ where_nothing (λ u. near u && o u) (λ u l. vacant_bits (ray s u) (before u t) (cell_at cells u) (vacant u l)))

-- the rook is on the king's rank, and the way to it is free
castle_sees : (p : Parts) (m : Triple) (occupied : ℕ) → IsPosition p → occupied ≡ where_set (λ u. is_occupied (cell_at p.placement u))
    → m.from < 64 → m.to < 64 → Castles p m → (is_rook_line m.from m.to && is_free occupied m.from m.to) ≡ true
castle_sees p m occupied valid e lf lt w =
    let s = m.from in
    let t = m.to in
    let home : rank_of s ≡ home_rank p.turn = (valid.rights p.turn).king (file_of t) s (file_bound t) lf w.right w.king in
    let rook = w.rook in
    let apart : s ≢ t =
    λ same. let k = one_kind p.turn p.turn Rook King (sym (castling p m valid w).rook ∙ ap (piece_on p) (sym same) ∙ w.king) in cc in
    let rank = eq-eqb (rank_of s) (rank_of t) (omega arith) in
    let line : is_rook_line s t ≡ true =
    and_from (not (s == t)) (same_rank s t || same_file s t) (not_from_false (s == t) (ne_eqb s t apart))
    (or_left (same_rank s t) (same_file s t) rank) in
    let free : is_free occupied s t ≡ true =
    elim (cases_lt (file_of s) (file_of t)) [
      | inl side ↦
          free_along is_east below p.placement s t occupied east_ray e lf lt
          (and_from (same_rank s t) (nat_lt (file_of s) (file_of t)) rank (lt-ltb (file_of s) (file_of t) side))
          (λ u l on before.
          let parts = and_parts (same_rank s u) (nat_lt (file_of s) (file_of u)) on in
          let level = eqb-true (rank_of s) (rank_of u) parts.0 in
          let after = ltb-true (file_of s) (file_of u) parts.1 in
          let under = ltb-true u t before in
          w.vacant u l (on_g_side p.turn m u home rook side (omega arith) under) (omega arith) (omega arith))
      | inr other ↦
          let side : file_of t < file_of s = omega (arith, apart) in
          free_along is_west above p.placement s t occupied west_ray e lf lt
          (and_from (same_rank s t) (nat_lt (file_of t) (file_of s)) rank (lt-ltb (file_of t) (file_of s) side))
          (λ u l on before.
          let parts = and_parts (same_rank s u) (nat_lt (file_of u) (file_of s)) on in
          let level = eqb-true (rank_of s) (rank_of u) parts.0 in
          let after = ltb-true (file_of u) (file_of s) parts.1 in
          let over = ltb-true t u before in
          w.vacant u l (on_c_side p.turn m u home rook side over (omega arith)) (omega arith) (omega arith))
    ] in
    and_from (is_rook_line s t) (is_free occupied s t) line free

-- ---- What the code leaves out.

-- castling goes to no square but those of the rooks in sight
pub none_out_of_sight : (p : Parts) (s t set occupied : ℕ) (k : Option Kind) → IsPosition p
    → occupied ≡ where_set (λ u. is_occupied (cell_at p.placement u))
    → set ≡ where_set (λ u. (is_of p.turn (piece_on p u) && is_kind Rook (piece_on p u)) && (is_rook_line s u && is_free occupied s u))
    → s < 64 → t < 64 → is_in set t ≡ false → Castles p (triple s t k) → ⊥
none_out_of_sight p s t set occupied k valid eo es ls lt out w =
    let rook = is_of p.turn (piece_on p t) && is_kind Rook (piece_on p t) in
    let sees = is_rook_line s t && is_free occupied s t in
    both_ways (rook && sees)
    (sym (in_where (λ u. (is_of p.turn (piece_on p u) && is_kind Rook (piece_on p u)) && (is_rook_line s u && is_free occupied s u)) set t es lt)
    ∙ out)
    (and_from rook sees (castle_rook p (triple s t k) valid w lt) (castle_sees p (triple s t k) occupied valid eo ls lt w))

-- and a side without rights does not castle
pub none_without_rights : (p : Parts) (m : Triple) (r : List Bool) → r ≡ rights_of p.rights p.turn
    → pointwise beq r (replicate 8 false) ≡ true → Castles p m → ⊥
none_without_rights p m r had test w =
    let f = file_of m.to in
    let none : r ≡ replicate 8 false = (slice_eq-Decides {E = beq} booleans_Decides r (replicate 8 false) _ refl).0 test in
    both_ways (has_right p.rights p.turn f)
    (ap (λ (rs : List Bool). get_or rs f false) (sym had ∙ none) ∙ get_or-replicate 8 f false false (file_bound m.to)) w.right
