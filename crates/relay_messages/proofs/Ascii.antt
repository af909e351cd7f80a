-- The texts of positions and of moves are ASCII, and so text.
use Rattle.std.proofs.Common.{◌≡◌, ℕ, zero, suc, ◌+◌, ◌*◌, ◌<◌, ◌≤◌, List, [], ◌∷◌, ◌++◌, length, take, drop, true, false, cond, Option, Some, None, decimal, refl, arith, lit<, length-drop}
use Rattle.std.specs.Str.{IsAscii, IsUtf8}
use Rattle.std.proofs.lemmas.Fmt.{IsAscii-decimal}
use Rattle.std.proofs.lemmas.List.{length-take}
use Rattle.std.proofs.lemmas.Str.{IsAscii-append, IsUtf8-from_ascii}
use Rattle.std.proofs.lemmas.Str.Ascii.{IsAscii-cons, IsAscii-nil}
use Rattle.c960_board.specs.declared.parts.Parts.{Parts}
use Rattle.c960_board.specs.declared.piece.Colour.{Colour}
use Rattle.c960_board.specs.declared.piece.Colour.TheVariants.{White, Black}
use Rattle.c960_board.specs.declared.piece.Kind.{Kind}
use Rattle.c960_board.specs.declared.piece.Kind.TheVariants.{Pawn, Knight, Bishop, Rook, Queen, King}
use Rattle.c960_board.specs.declared.rights.CastlingRights.{CastlingRights}
use Rattle.c960_board.specs.Fen.Canonical.{canonical, fields_of, or_dash, ranks_text, rights_text, run_text, side_text, squares_text}
use Rattle.c960_board.specs.Fen.Letters.{letter, letter_of, right_base, small_letter, turn_text}
use Rattle.c960_board.specs.Fen.Target.{target_text}
use Rattle.c960_board.specs.Moves.{IsMove, Triple}
use Rattle.c960_board.specs.MoveTexts.{move_text, promotion_text, square_text}
use Rattle.c960_board.specs.Pieces.{Cell}
use Rattle.c960_board.specs.Position.{IsPosition, IsTarget}
use Rattle.c960_board.specs.Cells.{has_right}
use Rattle.c960_board.specs.Squares.{file_of, rank_of}

one : (b : ℕ) → b < 128 → IsAscii (b ∷ [])
one b h = IsAscii-cons b [] h IsAscii-nil

-- ---- Moves.

square_is_ascii : (s : ℕ) → s < 64 → IsAscii (square_text s)
square_is_ascii s h = IsAscii-cons (97 + file_of s) ((49 + rank_of s) ∷ []) (omega arith) (one (49 + rank_of s) (omega arith))

promotion_is_ascii : (p : Option Kind) → IsAscii (promotion_text p)
promotion_is_ascii (Some Knight) = one 110 (lit< tt)
promotion_is_ascii (Some Bishop) = one 98 (lit< tt)
promotion_is_ascii (Some Rook) = one 114 (lit< tt)
promotion_is_ascii (Some Queen) = one 113 (lit< tt)
promotion_is_ascii (Some Pawn) = IsAscii-nil
promotion_is_ascii (Some King) = IsAscii-nil
promotion_is_ascii None = IsAscii-nil

pub move_is_utf8 : (m : Triple) → IsMove m → IsUtf8 (move_text m)
move_is_utf8 m h =
    IsUtf8-from_ascii (move_text m)
    (IsAscii-append (square_text m.from) (square_text m.to ++ promotion_text m.promotion) (square_is_ascii m.from h.from)
    (IsAscii-append (square_text m.to) (promotion_text m.promotion) (square_is_ascii m.to h.to) (promotion_is_ascii m.promotion)))

-- ---- The placement.

small_is_ascii : (k : Kind) → small_letter k < 128
small_is_ascii Pawn = lit< tt
small_is_ascii Knight = lit< tt
small_is_ascii Bishop = lit< tt
small_is_ascii Rook = lit< tt
small_is_ascii Queen = lit< tt
small_is_ascii King = lit< tt

letter_is_ascii : (c : Colour) (k : Kind) → letter_of c k < 128
letter_is_ascii White k = let h : small_letter k < 128 = small_is_ascii k in omega arith
letter_is_ascii Black k = small_is_ascii k

run_is_ascii : (n : ℕ) → n < 80 → IsAscii (run_text n)
run_is_ascii zero h = IsAscii-nil
run_is_ascii (suc n) h = one (48 + suc n) (omega arith)

squares_are_ascii : (cells : List Cell) (n : ℕ) → n + length cells < 80 → IsAscii (squares_text cells n)
unfolding squares_text
squares_are_ascii [] n h = run_is_ascii n (omega arith)
squares_are_ascii (None ∷ cells) n h = squares_are_ascii cells (n + 1) (omega arith)
squares_are_ascii (Some p ∷ cells) n h =
    IsAscii-append _ _ (run_is_ascii n (omega arith))
    (IsAscii-cons (letter p) (squares_text cells 0) (letter_is_ascii p.colour p.kind) (squares_are_ascii cells 0 (omega arith)))

ranks_are_ascii : (n : ℕ) (cells : List Cell) → length cells ≤ 64 → IsAscii (ranks_text n cells)
unfolding ranks_text
ranks_are_ascii zero cells h = squares_are_ascii cells 0 (omega arith)
ranks_are_ascii (suc n) cells h =
    IsAscii-append _ _ (squares_are_ascii (drop (8 * suc n) cells) 0 (omega (arith, length-drop (8 * suc n) cells)))
    (IsAscii-cons 47 (ranks_text n (take (8 * suc n) cells)) (lit< tt) (ranks_are_ascii n (take (8 * suc n) cells) (omega (arith, length-take (8 * suc n) cells))))

-- ---- The other fields.

turn_is_ascii : (c : Colour) → IsAscii (turn_text c)
turn_is_ascii White = one 119 (lit< tt)
turn_is_ascii Black = one 98 (lit< tt)

right_is_ascii : (c : Colour) (n : ℕ) → n < 8 → right_base c + n < 128
right_is_ascii White n h = omega arith
right_is_ascii Black n h = omega arith

side_is_ascii : (r : CastlingRights) (c : Colour) (n : ℕ) → n ≤ 8 → IsAscii (side_text r c n)
unfolding side_text
side_is_ascii r c zero h = IsAscii-nil
side_is_ascii r c (suc n) h =
    elim (has_right r c n) as (λ has. IsAscii (cond has ((right_base c + n) ∷ side_text r c n) (side_text r c n))) [
      | true ↦ IsAscii-cons (right_base c + n) (side_text r c n) (right_is_ascii c n (omega arith)) (side_is_ascii r c n (omega arith))
      | false ↦ side_is_ascii r c n (omega arith)
    ]

or_dash_is_ascii : (text : List ℕ) → IsAscii text → IsAscii (or_dash text)
or_dash_is_ascii [] h = one 45 (lit< tt)
or_dash_is_ascii (b ∷ bs) h = h

rights_are_ascii : (r : CastlingRights) → IsAscii (rights_text r)
unfolding rights_text
rights_are_ascii r =
    or_dash_is_ascii _ (IsAscii-append _ _ (side_is_ascii r White 8 (omega arith)) (side_is_ascii r Black 8 (omega arith)))

target_rank_is_low : (cells : List Cell) (c : Colour) (t : ℕ) → IsTarget cells c t → t < 64
target_rank_is_low cells White t h = let on : rank_of t ≡ 5 = h.on_rank in omega arith
target_rank_is_low cells Black t h = let on : rank_of t ≡ 2 = h.on_rank in omega arith

target_is_ascii : (t : Option ℕ) → ((s : ℕ) → t ≡ Some s → s < 64) → IsAscii (target_text t)
target_is_ascii None h = one 45 (lit< tt)
target_is_ascii (Some s) h = square_is_ascii s (h s refl)

number_is_ascii : (n : ℕ) → n ≤ 65535 → IsAscii (decimal n)
number_is_ascii n h = IsAscii-decimal n (omega arith)

-- ---- The whole text.

pub fen_is_utf8 : (p : Parts) → IsPosition p → IsUtf8 (canonical p)
unfolding canonical fields_of
fen_is_utf8 p h =
    let space : (bs : List ℕ) → IsAscii bs → IsAscii (32 ∷ bs) = λ bs rest. IsAscii-cons 32 bs (lit< tt) rest in
    let target : IsAscii (target_text p.target) =
    target_is_ascii p.target (λ t same. target_rank_is_low p.placement p.turn t (h.target t same)) in
    IsUtf8-from_ascii (canonical p)
    (IsAscii-append _ _ (ranks_are_ascii 7 p.placement (omega (arith, h.placement.full)))
    (space _ (IsAscii-append _ _ (turn_is_ascii p.turn)
    (space _ (IsAscii-append _ _ (rights_are_ascii p.rights)
    (space _ (IsAscii-append _ _ target
    (space _ (IsAscii-append _ _ (number_is_ascii p.half_moves h.counters.half_moves)
    (space _ (number_is_ascii p.number h.counters.bounded)))))))))))
