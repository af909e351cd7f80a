-- What happens to the followers.
use Rattle.std.specs.Prelude.{◌≡◌, ℕ, ◌+◌, ◌<◌, ◌==◌, ◌&&◌, not, cond, is_some, List, [], ◌∷◌, ◌++◌, length, drop, map, Some, None, unwrap_or}
use Rattle.c960_board.specs.Moves.{Triple}
use Rattle.relay_core.specs.declared.reply.Account.{Account}
use Rattle.relay_core.specs.Held.{HeldFollower}
use Rattle.relay_core.specs.Name.{same_name}

-- a follower that joins at a place of a log, with the moves from there on in its queue
abbrev pub joining : List ℕ → ℕ → List Triple → ℕ → HeldFollower
joining board place moves capacity =
    record { board = board; joined = place; taken = 0; cut = None; queue = drop place moves; capacity = capacity }

abbrev pub closed_at : ℕ → HeldFollower → HeldFollower
closed_at place f = record f { cut = Some place }

abbrev pub queued : Triple → HeldFollower → HeldFollower
queued m f = record f { queue = f.queue ++ m ∷ [] }

-- a follower after a move was made on a board at a place: if it is of that board and not closed, the move is in its queue, or it is
-- closed at that place because its queue was full
abbrev pub offered : List ℕ → ℕ → Triple → HeldFollower → HeldFollower
offered board place m f =
    cond (same_name board f.board && not (is_some f.cut))
    (cond (length f.queue == f.capacity) (closed_at place f) (queued m f)) f

abbrev pub published : List ℕ → ℕ → Triple → List (ℕ × HeldFollower) → List (ℕ × HeldFollower)
published board place m all = map (λ e. (e.0, offered board place m e.1)) all

-- a follower after a take, depending on what waited for it
abbrev pub popped_from : List Triple → HeldFollower → HeldFollower
popped_from [] f = f
popped_from (m ∷ rest) f = record f { taken = f.taken + 1; queue = rest }

abbrev pub popped : HeldFollower → HeldFollower
popped f = popped_from f.queue f

-- what a follower has had, given that its board's log has this length
abbrev pub account_of : ℕ → HeldFollower → Account
account_of present f =
    record { joined = f.joined; taken = f.taken; limit = unwrap_or f.cut present; cut = is_some f.cut }

-- which spectator follows which board
abbrev pub boards_of : List (ℕ × HeldFollower) → List (ℕ × List ℕ)
boards_of all = map (λ e. (e.0, e.1.board)) all

-- what a take needs: the places of the log fit in 16 bits, and a closed follower was closed where its queue ends
abbrev pub HasPlaces : HeldFollower → Type 0
HasPlaces f =
    (f.joined + f.taken + length f.queue < 65536)
    × ((c : ℕ) → f.cut ≡ Some c → c ≡ f.joined + f.taken + length f.queue)
