-- The sets of attackers.
use Rattle.std.proofs.Common.{◌≡◌, ◌≢◌, ℕ, Bool, true, false, ◌&&◌, ◌||◌, List, Some, None, length, refl, ap, sym, ◌∙◌, inl, inr, nat_lt, arith}
use Rattle.std.specs.Prelude.{◌==◌, bit_and, bit_or}
use Rattle.std.proofs.Math.Bool.{and-false, and-true, or-false, and_assoc, or_comm}
use Rattle.std.proofs.lemmas.Bool.{cases_eq, eq-eqb, ne_eqb}
use Rattle.c960_board.specs.declared.piece.Colour.{Colour}
use Rattle.c960_board.specs.declared.piece.Colour.TheVariants.{White, Black}
use Rattle.c960_board.specs.declared.piece.Kind.{Kind}
use Rattle.c960_board.specs.declared.piece.Kind.TheVariants.{Pawn, Knight, Bishop, Rook, Queen, King}
use Rattle.c960_board.specs.Pieces.{Cell, same_colour, same_kind, is_of}
use Rattle.c960_board.specs.declared.parts.Parts.{Parts}
use Rattle.c960_board.specs.declared.sets.Sets.{Sets}
use Rattle.c960_board.specs.Position.{IsPosition}
use Rattle.c960_board.specs.Cells.{cell_at}
use Rattle.c960_board.specs.Sets.{is_kind, sets_of, colour_set, kind_set, is_in}
use Rattle.c960_board.proofs.lemmas.SetFacts.{kind_is}
use Rattle.c960_board.specs.Squares.{file_of, rank_of}
use Rattle.c960_rules.specs.Lines.{distance, same_rank, same_file, same_diagonal, within, between}
use Rattle.c960_rules.specs.Inner.Wheres.{where_set, is_free, is_knight_leap, is_king_step, is_pawn_hit, is_rook_line, is_bishop_line, is_leaper_on, is_slider_on, is_attacker_on, attacks_over, attacks_over_as}
use Rattle.c960_rules.proofs.WhereFacts.{where_or, where_agree, set_where, in_where}

-- the set of a side
pub side_where : (c : Colour) (cells : List Cell) (a : ℕ) → length cells ≡ 64 → a ≡ colour_set c (sets_of cells)
    → a ≡ where_set (λ s. is_of c (cell_at cells s))
side_where White cells a full e = e ∙ set_where (is_of White) cells full
side_where Black cells a full e = e ∙ set_where (is_of Black) cells full

-- the set of a kind
pub kind_where : (p : Parts) (sets : Sets) → IsPosition p → sets ≡ sets_of p.placement → (k : Kind)
    → kind_set k sets ≡ where_set (λ s. is_kind k (cell_at p.placement s))
kind_where p sets valid e k =
    ap (kind_set k) e ∙ kind_is k p.placement ∙ set_where (is_kind k) p.placement valid.placement.full

-- a pawn of that colour hits as its own colour does
pawn_same : (c by : Colour) (s t : ℕ) → (same_colour c by && is_pawn_hit by s t) ≡ (same_colour c by && is_pawn_hit c s t)
pawn_same White White s t = refl
pawn_same Black Black s t = refl
pawn_same White Black s t = refl
pawn_same Black White s t = refl

-- the leapers and the sliders with a free way are all attackers: of one piece, by its kind
kind_attacker : (c by : Colour) (k : Kind) (occupied s t : ℕ)
    → ((same_colour c by
    && (((is_knight_leap s t && same_kind k Knight) || (is_king_step s t && same_kind k King))
    || (is_pawn_hit by s t && same_kind k Pawn)))
    || ((same_colour c by
    && ((is_rook_line s t && (same_kind k Rook || same_kind k Queen))
    || (is_bishop_line s t && (same_kind k Bishop || same_kind k Queen))))
    && is_free occupied s t))
    ≡ (same_colour c by && attacks_over_as occupied c k s t)
kind_attacker c by Pawn occupied s t = simp (and-false, and-true, or-false) (pawn_same c by s t)
kind_attacker c by Knight occupied s t = simp (and-false, and-true, or-false)
kind_attacker c by Bishop occupied s t = simp (and-false, and-true, or-false, and_assoc)
kind_attacker c by Rook occupied s t = simp (and-false, and-true, or-false, and_assoc)
kind_attacker c by Queen occupied s t = simp (and-false, and-true, or-false, and_assoc)
kind_attacker c by King occupied s t = simp (and-false, and-true, or-false)

-- of one cell
attackers_of : (o : Cell) (occupied : ℕ) (by : Colour) (s t : ℕ)
    → ((is_of by o
    && (((is_knight_leap s t && is_kind Knight o) || (is_king_step s t && is_kind King o)) || (is_pawn_hit by s t && is_kind Pawn o)))
    || ((is_of by o
    && ((is_rook_line s t && (is_kind Rook o || is_kind Queen o)) || (is_bishop_line s t && (is_kind Bishop o || is_kind Queen o))))
    && is_free occupied s t))
    ≡ (is_of by o && attacks_over occupied o s t)
attackers_of None occupied by s t = refl
attackers_of (Some p) occupied by s t = kind_attacker p.colour by p.kind occupied s t

-- what lies between two squares lies between them the other way round
pub same_back : (a b : ℕ) → (a == b) ≡ (b == a)
same_back a b =
    elim (cases_eq a b) [
      | inl e ↦ rw e refl
      | inr ne ↦ ne_eqb a b ne ∙ sym (ne_eqb b a (λ e. ne (sym e)))
    ]

way_back : (a b c d w v : Bool) → a ≡ c → b ≡ d → w ≡ v → (a && (b && w)) ≡ (d && (c && v))
way_back true true c d w v e f g = rw (← e, ← f) g
way_back true false c d w v e f g = rw (← e, ← f) refl
way_back false b c d w v e f g = rw (← e) (sym (and-false d))

within_back : (a b c : ℕ) → within a b c ≡ within c b a
within_back a b c = or_comm (nat_lt a b && nat_lt b c) (nat_lt c b && nat_lt b a)

distance_back : (a b : ℕ) → distance a b ≡ distance b a
distance_back a b = omega arith

diagonal_back : (s t : ℕ) → same_diagonal s t ≡ same_diagonal t s
diagonal_back s t =
    let files = distance_back (file_of s) (file_of t) in
    let ranks = distance_back (rank_of s) (rank_of t) in
    rw (files, ranks) refl

pub between_back : (s u t : ℕ) → between s u t ≡ between t u s
between_back s u t =
    let files = within_back (file_of s) (file_of u) (file_of t) in
    let ranks = within_back (rank_of s) (rank_of u) (rank_of t) in
    let on_rank = way_back (same_rank s u) (same_rank u t) (same_rank u s) (same_rank t u) _ _
    (same_back (rank_of s) (rank_of u)) (same_back (rank_of u) (rank_of t)) files in
    let on_file = way_back (same_file s u) (same_file u t) (same_file u s) (same_file t u) _ _
    (same_back (file_of s) (file_of u)) (same_back (file_of u) (file_of t)) ranks in
    let both : (within (file_of s) (file_of u) (file_of t) && within (rank_of s) (rank_of u) (rank_of t))
    ≡ (within (file_of t) (file_of u) (file_of s) && within (rank_of t) (rank_of u) (rank_of s)) =
    ap (λ (b : Bool). b && within (rank_of s) (rank_of u) (rank_of t)) files
    ∙ ap (λ (b : Bool). within (file_of t) (file_of u) (file_of s) && b) ranks in
    let on_diagonal = way_back (same_diagonal s u) (same_diagonal u t) (same_diagonal u s) (same_diagonal t u) _ _
    (diagonal_back s u) (diagonal_back u t) both in
    rw (on_rank, on_file, on_diagonal) refl

-- so a way is free both ways
pub free_back : (occupied s t : ℕ) → is_free occupied s t ≡ is_free occupied t s
unfolding is_free
free_back occupied s t =
    ap (λ (set : ℕ). bit_and set occupied == 0)
    (where_agree (λ u. between s u t) (λ u. between t u s) (λ u l. between_back s u t))

-- a free way, from its test
pub free_is : (occupied s t between_them : ℕ) → between_them ≡ where_set (λ u. between s u t)
    → bit_and between_them occupied ≡ 0 → is_free occupied s t ≡ true
unfolding is_free
free_is occupied s t w e h = eq-eqb (bit_and (where_set (λ u. between s u t)) occupied) 0 (ap (λ (x : ℕ). bit_and x occupied) (sym e) ∙ h)

-- and one that is not free
pub free_isnt : (occupied s t between_them : ℕ) → between_them ≡ where_set (λ u. between s u t)
    → bit_and between_them occupied ≢ 0 → is_free occupied s t ≡ false
unfolding is_free
free_isnt occupied s t w e h =
    ne_eqb (bit_and (where_set (λ u. between s u t)) occupied) 0 (λ z. h (ap (λ (x : ℕ). bit_and x occupied) e ∙ z))

-- the leapers and the sliders with a free way are all attackers
pub all_attackers : (cells : List Cell) (occupied : ℕ) (by : Colour) (s t : ℕ)
    → (is_leaper_on cells by s t || (is_slider_on cells by s t && is_free occupied s t)) ≡ is_attacker_on cells occupied by s t
all_attackers cells occupied by s t = attackers_of (cell_at cells s) occupied by s t

-- joined with the leapers
pub attackers_join : (cells : List Cell) (occupied : ℕ) (by : Colour) (t leapers sliders free : ℕ)
    → leapers ≡ where_set (λ s. is_leaper_on cells by s t) → sliders ≡ where_set (λ s. is_slider_on cells by s t)
    → free ≡ where_set (λ s. is_in sliders s && is_free occupied t s)
    → bit_or leapers free ≡ where_set (λ s. is_attacker_on cells occupied by s t)
attackers_join cells occupied by t leapers sliders free el es ef =
    where_or (λ s. is_leaper_on cells by s t) (λ s. is_in sliders s && is_free occupied t s) leapers free el ef
    ∙ where_agree (λ s. is_leaper_on cells by s t || (is_in sliders s && is_free occupied t s))
    (λ s. is_attacker_on cells occupied by s t)
    (λ s l.
    let on = in_where (λ u. is_slider_on cells by u t) sliders s es l in
    let back = free_back occupied t s in
    rw (on, back) (all_attackers cells occupied by s t))
