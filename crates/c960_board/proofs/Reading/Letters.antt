-- The letters of the pieces differ from one another, from the digits, the slash and the space.
use Rattle.std.proofs.Common.{◌≡◌, ℕ, ◌≤◌, cond, Option, Some, None, refl, sym, ap, ◌∙◌, arith}
use Rattle.std.specs.Prelude.{◌==◌}
use Rattle.c960_board.specs.declared.piece.Colour.{Colour}
use Rattle.c960_board.specs.declared.piece.Colour.TheVariants.{White, Black}
use Rattle.c960_board.specs.declared.piece.Kind.{Kind}
use Rattle.c960_board.specs.declared.piece.Kind.TheVariants.{Pawn, Knight, Bishop, Rook, Queen, King}
use Rattle.c960_board.specs.declared.piece.Piece.{Piece}
use Rattle.c960_board.specs.Fen.Letters.{letter, letter_of}

-- a piece of that colour and kind
abbrev piece : Colour → Kind → Option Piece
piece c k = Some (record { colour = c; kind = k })

-- the piece of a letter: two pieces with the same letter are equal
abbrev piece_of : ℕ → Option Piece
piece_of b =
    cond (b == 80) (piece White Pawn) (cond (b == 78) (piece White Knight) (cond (b == 66) (piece White Bishop)
    (cond (b == 82) (piece White Rook) (cond (b == 81) (piece White Queen) (cond (b == 75) (piece White King)
    (cond (b == 112) (piece Black Pawn) (cond (b == 110) (piece Black Knight) (cond (b == 98) (piece Black Bishop)
    (cond (b == 114) (piece Black Rook) (cond (b == 113) (piece Black Queen) (cond (b == 107) (piece Black King)
    None)))))))))))

-- the letter of a piece yields that piece
read_back : (c : Colour) (k : Kind) → piece_of (letter_of c k) ≡ piece c k
read_back White Pawn = refl
read_back White Knight = refl
read_back White Bishop = refl
read_back White Rook = refl
read_back White Queen = refl
read_back White King = refl
read_back Black Pawn = refl
read_back Black Knight = refl
read_back Black Bishop = refl
read_back Black Rook = refl
read_back Black Queen = refl
read_back Black King = refl

-- a letter belongs to one piece
pub letter_injective : (p q : Piece) → letter p ≡ letter q → p ≡ q
letter_injective p q e =
    let a : piece_of (letter p) ≡ Some p = read_back p.colour p.kind in
    let b : piece_of (letter q) ≡ Some q = read_back q.colour q.kind in
    let s : Some p ≡ Some q = sym a ∙ ap piece_of e ∙ b in
    cc

-- no letter is below B
letter_of-least : (c : Colour) (k : Kind) → 66 ≤ letter_of c k
letter_of-least White Pawn = omega arith
letter_of-least White Knight = omega arith
letter_of-least White Bishop = omega arith
letter_of-least White Rook = omega arith
letter_of-least White Queen = omega arith
letter_of-least White King = omega arith
letter_of-least Black Pawn = omega arith
letter_of-least Black Knight = omega arith
letter_of-least Black Bishop = omega arith
letter_of-least Black Rook = omega arith
letter_of-least Black Queen = omega arith
letter_of-least Black King = omega arith

-- a letter is above the digits, the slash and the space
pub letter-least : (p : Piece) → 66 ≤ letter p
letter-least p = letter_of-least p.colour p.kind
