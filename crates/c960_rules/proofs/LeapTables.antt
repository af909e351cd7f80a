-- The tables against the relations between squares. This is checked by computation over all squares.
use Rattle.std.proofs.Common.{◌≡◌, ℕ, ◌<◌, List, map, get_or, refl, ap, ◌∙◌, zero-add}
use Rattle.std.proofs.lemmas.List.FromFn.{get_or-map-range_with_len}
use Rattle.c960_rules.specs.declared.tables.knight.TheConstants.{KNIGHT}
use Rattle.c960_rules.specs.declared.tables.king.TheConstants.{KING}
use Rattle.c960_rules.specs.declared.tables.rook_lines.TheConstants.{ROOK_LINES}
use Rattle.c960_rules.specs.declared.tables.bishop_lines.TheConstants.{BISHOP_LINES}
use Rattle.c960_rules.specs.declared.tables.white_pawn.TheConstants.{WHITE_PAWN}
use Rattle.c960_rules.specs.declared.tables.black_pawn.TheConstants.{BLACK_PAWN}
use Rattle.c960_board.specs.declared.piece.Colour.TheVariants.{White, Black}
use Rattle.c960_rules.specs.Lines.{squares}
use Rattle.c960_rules.specs.Inner.Wheres.{where_set, is_knight_leap, is_king_step, is_rook_line, is_bishop_line, is_pawn_hit}

pub knight_table : KNIGHT ≡ map (λ s. where_set (is_knight_leap s)) squares
unfolding where_set
knight_table = refl

pub king_table : KING ≡ map (λ s. where_set (is_king_step s)) squares
unfolding where_set
king_table = refl

pub rook_table : ROOK_LINES ≡ map (λ s. where_set (is_rook_line s)) squares
unfolding where_set
rook_table = refl

pub bishop_table : BISHOP_LINES ≡ map (λ s. where_set (is_bishop_line s)) squares
unfolding where_set
bishop_table = refl

-- the same from the other end
pub knight_table_to : KNIGHT ≡ map (λ t. where_set (λ s. is_knight_leap s t)) squares
unfolding where_set
knight_table_to = refl

pub king_table_to : KING ≡ map (λ t. where_set (λ s. is_king_step s t)) squares
unfolding where_set
king_table_to = refl

pub rook_table_to : ROOK_LINES ≡ map (λ t. where_set (λ s. is_rook_line s t)) squares
unfolding where_set
rook_table_to = refl

pub bishop_table_to : BISHOP_LINES ≡ map (λ t. where_set (λ s. is_bishop_line s t)) squares
unfolding where_set
bishop_table_to = refl

pub white_table : WHITE_PAWN ≡ map (λ s. where_set (is_pawn_hit White s)) squares
unfolding where_set
white_table = refl

pub black_table : BLACK_PAWN ≡ map (λ s. where_set (is_pawn_hit Black s)) squares
unfolding where_set
black_table = refl

pub white_table_to : BLACK_PAWN ≡ map (λ t. where_set (λ s. is_pawn_hit White s t)) squares
unfolding where_set
white_table_to = refl

pub black_table_to : WHITE_PAWN ≡ map (λ t. where_set (λ s. is_pawn_hit Black s t)) squares
unfolding where_set
black_table_to = refl

-- a row of a table of a function, at the square of a number
pub row_of : {n s : ℕ} (f : ℕ → ℕ) (table : List ℕ) → table ≡ map f squares → n < 64 → n ≡ s → get_or table n 0 ≡ f s
row_of {n = n} f table e h same =
    ap (λ (l : List ℕ). get_or l n 0) e ∙ get_or-map-range_with_len f 0 64 n n 0 h (zero-add n) ∙ ap f same
