-- A take does not change which spectator follows which board.
use Rattle.std.proofs.Common.{◌≡◌, ℕ, nat_eq, List, [], ◌∷◌, Some, refl}
use Rattle.std.specs.Map.{lookup, set_value}
use Rattle.c960_board.specs.Moves.{Triple}
use Rattle.relay_core.specs.Held.Followers.{popped, popped_from, boards_of}
use Rattle.relay_core.specs.Held.{HeldFollower}
use Rattle.relay_core.proofs.lemmas.Lists.{set_value-map}

pub board_kept : (items : List Triple) (f : HeldFollower) → (popped_from items f).board ≡ f.board
board_kept [] f = refl
board_kept (m ∷ rest) f = refl

pub boards_kept : (who : ℕ) (es : List (ℕ × HeldFollower)) (f : HeldFollower) → lookup (nat_eq who) es ≡ Some f
    → boards_of (set_value (nat_eq who) es (popped f)) ≡ boards_of es
boards_kept who es f h = set_value-map (nat_eq who) (λ g. g.board) es f (popped f) h (board_kept f.queue f)
