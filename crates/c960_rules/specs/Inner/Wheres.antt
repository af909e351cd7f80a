-- Sets of squares as numbers, given by a test of each square: bit s is 1 if the square s passes.
use Rattle.std.specs.Prelude.{ℕ, ◌≡◌, ◌≢◌, ◌<◌, ◌==◌, Bool, false, ◌&&◌, ◌||◌, not, List, Some, None, map, max, bit_and}
use Rattle.std.specs.Int.{bit_at}
use Rattle.std.specs.Simd.Lanes.{mask_l}
use Rattle.c960_board.specs.declared.piece.Colour.{Colour}
use Rattle.c960_board.specs.declared.piece.Kind.{Kind}
use Rattle.c960_board.specs.declared.piece.Kind.TheVariants.{Pawn, Knight, Bishop, Rook, Queen, King}
use Rattle.c960_board.specs.declared.parts.Parts.{Parts}
use Rattle.c960_board.specs.Pieces.{Cell, is_of, holds}
use Rattle.c960_board.specs.Cells.{cell_at}
use Rattle.c960_board.specs.Sets.{is_kind}
use Rattle.c960_rules.specs.Lines.{squares, file_distance, rank_distance, same_rank, same_file, same_diagonal, between}
use Rattle.c960_rules.specs.Tests.Attacks.{is_forward}

-- the squares that pass the test
unfoldable pub where_set : (ℕ → Bool) → ℕ
where_set test = mask_l (map test squares)

-- a set without one of its squares
pub record IsWithout (set k rest : ℕ) : Type 0 where
  pub on_board : k < 64
  pub was : bit_at set k ≡ 1
  pub gone : bit_at rest k ≡ 0
  pub others : (i : ℕ) → i < 64 → i ≢ k → bit_at rest i ≡ bit_at set i

-- a knight on s attacks t
abbrev pub is_knight_leap : ℕ → ℕ → Bool
is_knight_leap s t =
    ((file_distance s t == 1) && (rank_distance s t == 2)) || ((file_distance s t == 2) && (rank_distance s t == 1))

-- a king on s attacks t
abbrev pub is_king_step : ℕ → ℕ → Bool
is_king_step s t = max (file_distance s t) (rank_distance s t) == 1

-- a pawn on s attacks t
abbrev pub is_pawn_hit : Colour → ℕ → ℕ → Bool
is_pawn_hit c s t = (file_distance s t == 1) && is_forward c s t

-- another square of the same rank or file
abbrev pub is_rook_line : ℕ → ℕ → Bool
is_rook_line s t = not (s == t) && (same_rank s t || same_file s t)

-- another square of the same diagonal
abbrev pub is_bishop_line : ℕ → ℕ → Bool
is_bishop_line s t = not (s == t) && same_diagonal s t

-- whether no square of the set lies between s and t
unfoldable pub is_free : ℕ → ℕ → ℕ → Bool
is_free occupied s t = bit_and (where_set (λ u. between s u t)) occupied == 0

-- whether a piece of that colour and kind on s attacks t, if these squares are occupied
abbrev pub attacks_over_as : ℕ → Colour → Kind → ℕ → ℕ → Bool
attacks_over_as occupied c Pawn s t = is_pawn_hit c s t
attacks_over_as occupied c Knight s t = is_knight_leap s t
attacks_over_as occupied c Bishop s t = is_bishop_line s t && is_free occupied s t
attacks_over_as occupied c Rook s t = is_rook_line s t && is_free occupied s t
attacks_over_as occupied c Queen s t = (is_rook_line s t || is_bishop_line s t) && is_free occupied s t
attacks_over_as occupied c King s t = is_king_step s t

-- the same for the contents of a cell
abbrev pub attacks_over : ℕ → Cell → ℕ → ℕ → Bool
attacks_over occupied None s t = false
attacks_over occupied (Some p) s t = attacks_over_as occupied p.colour p.kind s t

-- a pawn, knight or king of the colour on s attacks t
abbrev pub is_leaper_on : List Cell → Colour → ℕ → ℕ → Bool
is_leaper_on cells by s t =
    is_of by (cell_at cells s)
    && (((is_knight_leap s t && is_kind Knight (cell_at cells s)) || (is_king_step s t && is_kind King (cell_at cells s)))
    || (is_pawn_hit by s t && is_kind Pawn (cell_at cells s)))

-- a bishop, rook or queen of the colour on s moves along a line with t
abbrev pub is_slider_on : List Cell → Colour → ℕ → ℕ → Bool
is_slider_on cells by s t =
    is_of by (cell_at cells s)
    && ((is_rook_line s t && (is_kind Rook (cell_at cells s) || is_kind Queen (cell_at cells s)))
    || (is_bishop_line s t && (is_kind Bishop (cell_at cells s) || is_kind Queen (cell_at cells s))))

-- a piece of the colour on s attacks t, if these squares are occupied
abbrev pub is_attacker_on : List Cell → ℕ → Colour → ℕ → ℕ → Bool
is_attacker_on cells occupied by s t = is_of by (cell_at cells s) && attacks_over occupied (cell_at cells s) s t

-- a piece of that colour and kind on s attacks t on an empty board
abbrev pub is_way : Colour → Kind → ℕ → ℕ → Bool
is_way c Pawn s t = is_pawn_hit c s t
is_way c Knight s t = is_knight_leap s t
is_way c Bishop s t = is_bishop_line s t
is_way c Rook s t = is_rook_line s t
is_way c Queen s t = is_rook_line s t || is_bishop_line s t
is_way c King s t = is_king_step s t

-- a pawn of the side to move on s attacks t
abbrev pub is_taker : Parts → ℕ → ℕ → Bool
is_taker p s t = is_pawn_hit p.turn s t && holds p.turn Pawn (cell_at p.placement s)
