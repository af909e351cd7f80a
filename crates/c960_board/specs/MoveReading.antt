-- The function that reads a move's text: the move, or the first fault of the text.
use Rattle.std.specs.Prelude.{ℕ, ◌+◌, ◌-◌, ◌*◌, ◌==◌, nat_le, ◌&&◌, Bool, cond, List, [], ◌∷◌, Option, Some, None, Result, Ok, Err}
use Rattle.c960_board.specs.declared.piece.Kind.{Kind}
use Rattle.c960_board.specs.declared.piece.Kind.TheVariants.{Knight, Bishop, Rook, Queen}
use Rattle.c960_board.specs.declared.moves.fault.MoveFault.{MoveFault}
use Rattle.c960_board.specs.declared.moves.fault.MoveFault.TheVariants.{Length, Square, Promotion}
use Rattle.c960_board.specs.Moves.{Triple}

-- a to h
abbrev pub is_file_letter : ℕ → Bool
is_file_letter b = nat_le 97 b && nat_le b 104

-- 1 to 8
abbrev pub is_rank_digit : ℕ → Bool
is_rank_digit b = nat_le 49 b && nat_le b 56

-- the square of a file letter and a rank digit, None for other bytes
unfoldable pub square_read : ℕ → ℕ → Option ℕ
square_read file rank = cond (is_file_letter file && is_rank_digit rank) (Some ((file - 97) + 8 * (rank - 49))) None

-- the promotion of a letter n, b, r or q, None for another byte
unfoldable pub promotion_read : ℕ → Option (Option Kind)
promotion_read b =
    cond (b == 110) (Some (Some Knight))
    (cond (b == 98) (Some (Some Bishop))
    (cond (b == 114) (Some (Some Rook))
    (cond (b == 113) (Some (Some Queen)) None)))

-- the move of two squares and a promotion, or the fault of the first that is missing
abbrev pub move_of : Option ℕ → Option ℕ → Option (Option Kind) → Result Triple MoveFault
move_of (Some s) (Some t) (Some p) = Ok (record { from = s; to = t; promotion = p })
move_of (Some s) (Some t) None = Err Promotion
move_of (Some s) None p = Err Square
move_of None t p = Err Square

-- four bytes name two squares, a fifth byte a promotion
unfoldable pub move_read : List ℕ → Result Triple MoveFault
move_read (a ∷ b ∷ c ∷ d ∷ []) = move_of (square_read a b) (square_read c d) (Some None)
move_read (a ∷ b ∷ c ∷ d ∷ e ∷ []) = move_of (square_read a b) (square_read c d) (promotion_read e)
move_read _ = Err Length
