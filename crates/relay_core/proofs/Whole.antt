-- What a follower has taken, then what is due to it, is one stretch.
use Rattle.std.proofs.Common.{◌≡◌, ℕ, ◌≤◌, List, ◌++◌, length, Some, sym, ap, ◌∙◌, arith}
use Rattle.c960_board.specs.Moves.{Triple}
use Rattle.c960_game.specs.Limits.{LimitNumbers}
use Rattle.relay_core.specs.Following.{board_of, joined, next, limit, due, stretch}
use Rattle.relay_core.specs.History.{History, log}
use Rattle.relay_core.specs.Replies.{LawfulHistory}
use Rattle.relay_core.specs.Stretch.{IsStretch, placed}
use Rattle.relay_core.proofs.Facts.{IsWithin}
use Rattle.relay_core.proofs.Lawful.{facts}
use Rattle.relay_core.proofs.lemmas.Stretches.{joined_stretches, placed-append, stretch_length}

-- two stretches with their places, one after the other
two_stretches : (j n k : ℕ) (l : List Triple) → j ≤ n → n ≤ k → k ≤ length l
    → placed j (stretch j n l) ++ placed n (stretch n k l) ≡ placed j (stretch j k l)
two_stretches j n k l low high short =
    ap (λ p. placed j (stretch j n l) ++ placed p (stretch n k l)) (sym (stretch_length j n l low (omega arith)))
    ∙ sym (placed-append j (stretch j n l) (stretch n k l))
    ∙ ap (placed j) (joined_stretches j n k l low high short)

whole_within : (capacity : ℕ) (h : History) (who : ℕ) (board : List ℕ) → IsWithin capacity h who board
    → IsStretch capacity h who board
whole_within capacity h who board w =
    let begins : joined h who ≤ next h who = omega arith in
    record {
      reached = w.reached;
      ends = w.ends;
      whole = ap (λ t. t ++ placed (next h who) (due capacity h who board)) w.had
          ∙ two_stretches (joined h who) (next h who) (limit capacity h who board) (log h board) begins w.reached w.ends;
      bounded = let all = stretch_length (next h who) (limit capacity h who board) (log h board) w.reached w.ends in
          omega (arith, all, w.few);
    }

pub is_stretch : (limits : LimitNumbers) (h : History) → LawfulHistory limits h → (who : ℕ) (board : List ℕ)
    → board_of h who ≡ Some board → IsStretch limits.capacity h who board
is_stretch limits h law who board at = whole_within limits.capacity h who board ((facts limits h law).within who board at)
