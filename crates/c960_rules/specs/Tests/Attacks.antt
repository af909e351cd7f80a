-- Attacks, as tests that compute.
use Rattle.std.specs.Prelude.{ℕ, ◌+◌, Bool, true, false, ◌&&◌, ◌||◌, ◌==◌, not, is_none, List, Some, None, max}
use Rattle.std.specs.List.{list_any, list_all}
use Rattle.c960_board.specs.declared.piece.Colour.{Colour}
use Rattle.c960_board.specs.declared.piece.Colour.TheVariants.{White, Black}
use Rattle.c960_board.specs.declared.piece.Kind.{Kind}
use Rattle.c960_board.specs.declared.piece.Kind.TheVariants.{Pawn, Knight, Bishop, Rook, Queen, King}
use Rattle.c960_board.specs.Squares.{rank_of}
use Rattle.c960_board.specs.Pieces.{Cell, is_of}
use Rattle.c960_board.specs.Cells.{cell_at}
use Rattle.c960_rules.specs.Lines.{squares, file_distance, rank_distance, same_rank, same_file, same_diagonal, on_line, between}

-- whether the square u is empty if it is between s and t
unfoldable pub is_open_at : List Cell → ℕ → ℕ → ℕ → Bool
is_open_at cells s t u = elim (between s u t) [ true ↦ is_none (cell_at cells u) | false ↦ true ]

unfoldable pub clear : List Cell → ℕ → ℕ → Bool
clear cells s t = not (s == t) && list_all (is_open_at cells s t) squares

abbrev pub is_forward : Colour → ℕ → ℕ → Bool
is_forward White s t = rank_of t == rank_of s + 1
is_forward Black s t = rank_of s == rank_of t + 1

abbrev pub attacks_as : List Cell → Colour → Kind → ℕ → ℕ → Bool
attacks_as cells c Pawn s t = (file_distance s t == 1) && is_forward c s t
attacks_as cells c Knight s t =
    ((file_distance s t == 1) && (rank_distance s t == 2)) || ((file_distance s t == 2) && (rank_distance s t == 1))
attacks_as cells c Bishop s t = elim (same_diagonal s t) [ true ↦ clear cells s t | false ↦ false ]
attacks_as cells c Rook s t = elim (same_rank s t || same_file s t) [ true ↦ clear cells s t | false ↦ false ]
attacks_as cells c Queen s t = elim (on_line s t) [ true ↦ clear cells s t | false ↦ false ]
attacks_as cells c King s t = max (file_distance s t) (rank_distance s t) == 1

abbrev pub attacks_with : List Cell → Cell → ℕ → ℕ → Bool
attacks_with cells None s t = false
attacks_with cells (Some p) s t = attacks_as cells p.colour p.kind s t

unfoldable pub attacks : List Cell → ℕ → ℕ → Bool
attacks cells s t = attacks_with cells (cell_at cells s) s t

unfoldable pub attacked_by : List Cell → Colour → ℕ → Bool
attacked_by cells c t =
    list_any (λ s. elim (is_of c (cell_at cells s)) [ true ↦ attacks cells s t | false ↦ false ]) squares
