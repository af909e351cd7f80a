-- The cells of the ranks, according to sets of squares.
use Rattle.std.proofs.Common.{◌≡◌, ℕ, ◌+◌, ◌*◌, ◌≤◌, ◌<◌, List, ◌∷◌, ◌++◌, length, get_or, take, drop, map, Some, None, refl, sym, ◌∙◌, arith, length-drop}
use Rattle.std.specs.List.{range_with_len}
use Rattle.std.proofs.lemmas.List.{get_or-drop, ext_get_or}
use Rattle.std.proofs.lemmas.List.FromFn.{get_or-map-range_with_len, length-map-range_with_len, take-map-range_with_len}
use Rattle.c960_board.specs.declared.sets.Sets.{Sets}
use Rattle.c960_board.specs.Pieces.{Cell}
use Rattle.c960_board.specs.Sets.{cell_in, cells_of}
use Rattle.c960_board.specs.Fen.RankCells.{rank_cells}
use Rattle.c960_board.specs.Fen.Canonical.{run_text, squares_text, ranks_text}
use Rattle.c960_board.specs.Fen.Letters.{letter}
use Rattle.c960_board.specs.declared.piece.Piece.{Piece}
use Rattle.c960_board.proofs.Written.Steps.{ranks_text_more, ranks_text_last, squares_text_piece, squares_text_empty, squares_text_end}

-- a rank has eight squares
pub rank_width : (s : Sets) (rank : ℕ) → length (rank_cells s rank) ≡ 8
unfolding rank_cells
rank_width s rank = length-map-range_with_len (cell_in s) (8 * rank) 8

-- the square of a file
pub rank_cell : (s : Sets) (rank file square : ℕ) → file < 8 → 8 * rank + file ≡ square
    → get_or (rank_cells s rank) file None ≡ cell_in s square
unfolding rank_cells
rank_cell s rank file square l e = get_or-map-range_with_len (cell_in s) (8 * rank) 8 file square None l e

-- the cells of the first ranks
unfoldable pub lower_cells : Sets → ℕ → List Cell
lower_cells s ranks = map (cell_in s) (range_with_len 0 (8 * ranks))

-- all ranks
pub all_ranks : (s : Sets) → cells_of s ≡ lower_cells s 8
unfolding cells_of lower_cells
all_ranks s = refl

-- the highest of them
highest_rank : (s : Sets) (rank : ℕ) → rank_cells s rank ≡ drop (8 * rank) (lower_cells s (rank + 1))
unfolding rank_cells lower_cells
highest_rank s rank =
    let f = cell_in s in
    let all = map f (range_with_len 0 (8 * (rank + 1))) in
    let wide = length-map-range_with_len f 0 (8 * (rank + 1)) in
    let width = length-map-range_with_len f (8 * rank) 8 in
    ext_get_or None (map f (range_with_len (8 * rank) 8)) (drop (8 * rank) all) (omega (arith, length-drop (8 * rank) all))
    (λ k l.
    get_or-map-range_with_len f (8 * rank) 8 k (8 * rank + k) None (omega arith) refl
    ∙ sym (get_or-drop (8 * rank) all k None ∙ get_or-map-range_with_len f 0 (8 * (rank + 1)) (8 * rank + k) (8 * rank + k) None (omega arith) (omega arith)))

-- and those below it
ranks_below : (s : Sets) (rank : ℕ) → lower_cells s rank ≡ take (8 * rank) (lower_cells s (rank + 1))
unfolding lower_cells
ranks_below s rank = sym (take-map-range_with_len (cell_in s) 0 (8 * (rank + 1)) (8 * rank) (omega arith))

-- the text of a rank above the first, and its slash
pub lower_text_more : (s : Sets) (ranks n k : ℕ) → ranks ≡ n + 1 → n ≡ k + 1
    → ranks_text n (lower_cells s ranks) ≡ squares_text (rank_cells s n) 0 ++ 47 ∷ ranks_text k (lower_cells s n)
lower_text_more s ranks n k e f =
    rw e (ranks_text_more (lower_cells s (n + 1)) (lower_cells s n) (rank_cells s n) n k f (ranks_below s n) (highest_rank s n))

-- the text of the first rank
pub lower_text_last : (s : Sets) (ranks n : ℕ) → ranks ≡ 1 → n ≡ 0
    → ranks_text n (lower_cells s ranks) ≡ squares_text (rank_cells s 0) 0
unfolding lower_cells rank_cells
lower_text_last s ranks n e f = rw e (ranks_text_last (lower_cells s 1) n f)

-- a piece of a rank after a run of empty squares
pub rank_text_piece : (s : Sets) (rank file n : ℕ) (p : Piece) → file < 8 → cell_in s (8 * rank + file) ≡ Some p
    → squares_text (drop file (rank_cells s rank)) n ≡ run_text n ++ letter p ∷ squares_text (drop (file + 1) (rank_cells s rank)) 0
rank_text_piece s rank file n p l e =
    squares_text_piece (rank_cells s rank) file n p (omega (arith, rank_width s rank))
    (rank_cell s rank file (8 * rank + file) l refl ∙ e)

-- a square of a rank without a piece
pub rank_text_empty : (s : Sets) (rank file n : ℕ) → file < 8 → cell_in s (8 * rank + file) ≡ None
    → squares_text (drop file (rank_cells s rank)) n ≡ squares_text (drop (file + 1) (rank_cells s rank)) (n + 1)
rank_text_empty s rank file n l e =
    squares_text_empty (rank_cells s rank) file n (omega (arith, rank_width s rank))
    (rank_cell s rank file (8 * rank + file) l refl ∙ e)

-- the run at the end of a rank
pub rank_text_end : (s : Sets) (rank file n : ℕ) → 8 ≤ file → squares_text (drop file (rank_cells s rank)) n ≡ run_text n
rank_text_end s rank file n l = squares_text_end (rank_cells s rank) file n (omega (arith, rank_width s rank))
