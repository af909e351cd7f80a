-- Pieces, one list behind another.
use Rattle.std.proofs.Common.{◌≡◌, ◌+◌, ℕ, suc, List, [], ◌∷◌, ◌++◌, length, refl, sym, ap, ◌∙◌, append_assoc, arith}
use Rattle.c960_board.specs.Moves.{Triple}
use Rattle.relay_core.specs.Stretch.{placed}
use Rattle.relay_service.specs.Following.Pieces.{AllGoOn, Piece, a_close, a_move, a_ping, a_pong, an_end, frames_in, frames_of, move_pieces, moves_in}

pub frames_append : (ps qs : List Piece) → frames_of (ps ++ qs) ≡ frames_of ps ++ frames_of qs
frames_append [] qs = refl
frames_append (p ∷ ps) qs = ap (λ l. frames_in p ++ l) (frames_append ps qs) ∙ sym (append_assoc (frames_in p) (frames_of ps) (frames_of qs))

pub moves_append : (ps qs : List Piece) → moves_in (ps ++ qs) ≡ moves_in ps ++ moves_in qs
moves_append [] qs = refl
moves_append (a_move place m ∷ ps) qs = ap (λ l. (place, m) ∷ l) (moves_append ps qs)
moves_append (a_pong bytes ∷ ps) qs = moves_append ps qs
moves_append (a_ping ∷ ps) qs = moves_append ps qs
moves_append (an_end taken code ∷ ps) qs = moves_append ps qs
moves_append (a_close number ∷ ps) qs = moves_append ps qs

pub go_on_append : (ps qs : List Piece) → AllGoOn ps → AllGoOn qs → AllGoOn (ps ++ qs)
go_on_append [] qs x y = y
go_on_append (a_move place m ∷ ps) qs x y = go_on_append ps qs x y
go_on_append (a_pong bytes ∷ ps) qs x y = go_on_append ps qs x y
go_on_append (a_ping ∷ ps) qs x y = go_on_append ps qs x y
go_on_append (an_end taken code ∷ ps) qs x y = absurd x
go_on_append (a_close number ∷ ps) qs x y = absurd x

pub moves_of_moves : (place : ℕ) (ms : List Triple) → moves_in (move_pieces place ms) ≡ placed place ms
moves_of_moves place [] = refl
moves_of_moves place (m ∷ ms) = ap (λ l. (place, m) ∷ l) (moves_of_moves (place + 1) ms)

pub moves_go_on : (place : ℕ) (ms : List Triple) → AllGoOn (move_pieces place ms)
moves_go_on place [] = tt
moves_go_on place (m ∷ ms) = moves_go_on (place + 1) ms

pub more_moves : (place : ℕ) (ms ns : List Triple) → move_pieces place (ms ++ ns) ≡ move_pieces place ms ++ move_pieces (place + length ms) ns
more_moves place [] ns = ap (λ n. move_pieces n ns) (let e : place ≡ place + 0 = omega arith in e)
more_moves place (m ∷ ms) ns =
    ap (λ l. a_move place m ∷ l)
    (more_moves (place + 1) ms ns ∙ ap (λ n. move_pieces (place + 1) ms ++ move_pieces n ns) (let e : (place + 1) + length ms ≡ place + suc (length ms) = omega arith in e))
