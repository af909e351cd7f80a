-- A list that agrees with a log place by place is a stretch of it.
use Rattle.std.proofs.Common.{◌≡◌, ℕ, ◌+◌, ◌≤◌, ◌<◌, List, length, take, sym, ◌∙◌, arith, length-take, length-drop}
use Rattle.std.proofs.lemmas.List.{ext_get_or, get_or-take, get_or-drop}
use Rattle.c960_board.specs.Moves.{Triple}
use Rattle.relay_core.specs.Following.{stretch}
use Rattle.live_board.specs.SharedBoard.{no_move, move_at}

pub is_stretch : (t l : List Triple) (j : ℕ) → ((i : ℕ) → i < length t → move_at t i ≡ move_at l (j + i)) → j + length t ≤ length l
    → t ≡ stretch j (j + length t) l
is_stretch t l j same within =
    ext_get_or no_move t (stretch j (j + length t) l)
    (let a = length-drop j (take (j + length t) l) in let b = length-take (j + length t) l in omega (arith, a, b))
    (λ i less. same i less ∙ sym (get_or-drop j (take (j + length t) l) i no_move ∙ get_or-take (j + length t) l (j + i) no_move (omega arith)))
