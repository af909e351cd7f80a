-- What a history says of the spectators who follow a board.
use Rattle.std.specs.Prelude.{ℕ, ◌+◌, ◌==◌, nat_eq, Bool, false, ◌&&◌, cond, List, [], ◌∷◌, ◌++◌, length, take, drop, Option, Some, None, count_by, unwrap_or}
use Rattle.std.specs.Map.{lookup, remove_entry}
use Rattle.c960_board.specs.Moves.{Triple}
use Rattle.relay_core.specs.declared.step.Step.{Step}
use Rattle.relay_core.specs.declared.step.Step.TheVariants.{Submit, Follow, Take, Leave}
use Rattle.relay_core.specs.declared.reply.Reply.{Reply}
use Rattle.relay_core.specs.declared.reply.Reply.TheVariants.{Took}
use Rattle.relay_core.specs.declared.reply.Taken.{Taken}
use Rattle.relay_core.specs.declared.reply.Taken.TheVariants.{Move}
use Rattle.relay_core.specs.History.{History, is_accepted, log}
use Rattle.relay_core.specs.Name.{same_name}

-- the spectators who follow, each with its board, in the order of joining. In a lawful history they are those whose last
-- accepted follow is of that board, with no accepted leave after it
abbrev pub following_after : List (ℕ × List ℕ) → Step → Reply → List (ℕ × List ℕ)
following_after all (Follow who board from) reply = cond (is_accepted reply) (all ++ (who, board) ∷ []) all
following_after all (Leave who) reply = cond (is_accepted reply) (remove_entry (nat_eq who) all) all
following_after all _ reply = all

abbrev pub following : History → List (ℕ × List ℕ)
following [] = []
following (e ∷ h) = following_after (following h) e.0 e.1

-- the board that a spectator follows
abbrev pub board_of : History → ℕ → Option (List ℕ)
board_of h who = lookup (nat_eq who) (following h)

-- how many spectators follow a board
abbrev pub crowd : History → List ℕ → ℕ
crowd h board = count_by (λ e. same_name board e.1) (following h)

-- ---- What a follower has had. (For a spectator that does not follow, these definitions mean nothing.)

-- where a follow joins: at the place that it names, else at the log's length
abbrev pub place_of : History → List ℕ → Option ℕ → ℕ
place_of h board from = unwrap_or from (length (log h board))

-- where the spectator's last accepted follow joined
abbrev pub joined_after : History → ℕ → ℕ → Step → Reply → ℕ
joined_after h who place (Follow by board from) reply =
    cond (is_accepted reply && nat_eq by who) (place_of h board from) place
joined_after h who place _ reply = place

abbrev pub joined : History → ℕ → ℕ
joined [] who = 0
joined (e ∷ h) who = joined_after h who (joined h who) e.0 e.1

-- the places and moves in the answers to the spectator's takes since then
abbrev pub with_move : Bool → List (ℕ × Triple) → Taken → List (ℕ × Triple)
with_move mine had (Move place m) = cond mine (had ++ (place, m) ∷ []) had
with_move mine had _ = had

abbrev pub after_take : Bool → List (ℕ × Triple) → Reply → List (ℕ × Triple)
after_take mine had (Took answer) = with_move mine had answer
after_take mine had _ = had

abbrev pub taken_after : ℕ → List (ℕ × Triple) → Step → Reply → List (ℕ × Triple)
taken_after who had (Follow by board from) reply = cond (is_accepted reply && nat_eq by who) [] had
taken_after who had (Take by) reply = after_take (nat_eq by who) had reply
taken_after who had _ reply = had

abbrev pub taken : History → ℕ → List (ℕ × Triple)
taken [] who = []
taken (e ∷ h) who = taken_after who (taken h who) e.0 e.1

-- the place that the spectator takes next
abbrev pub next : History → ℕ → ℕ
next h who = joined h who + length (taken h who)

-- whether the spectator follows the board and is a whole capacity behind it
abbrev pub is_behind : ℕ → History → ℕ → List ℕ → Option (List ℕ) → Bool
is_behind capacity h who board None = false
is_behind capacity h who board (Some followed) =
    same_name board followed && (length (log h board) == next h who + capacity)

-- the log's length just before the first accepted submit since its follow at which the spectator was a whole capacity behind
abbrev pub first_closing : ℕ → History → ℕ → List ℕ → Option ℕ → Option ℕ
first_closing capacity h who board (Some cut) = Some cut
first_closing capacity h who board None =
    cond (is_behind capacity h who board (board_of h who)) (Some (length (log h board))) None

abbrev pub closing_after : ℕ → History → ℕ → Option ℕ → Step → Reply → Option ℕ
closing_after capacity h who cut (Follow by board from) reply = cond (is_accepted reply && nat_eq by who) None cut
closing_after capacity h who cut (Submit board m) reply = cond (is_accepted reply) (first_closing capacity h who board cut) cut
closing_after capacity h who cut _ reply = cut

abbrev pub closing_of : ℕ → History → ℕ → Option ℕ
closing_of capacity [] who = None
closing_of capacity (e ∷ h) who = closing_after capacity h who (closing_of capacity h who) e.0 e.1

-- where the stretch of a spectator of a board ends: where it was closed, else at the present
abbrev pub limit : ℕ → History → ℕ → List ℕ → ℕ
limit capacity h who board = unwrap_or (closing_of capacity h who) (length (log h board))

-- the moves at the places from a to b - 1
abbrev pub stretch : ℕ → ℕ → List Triple → List Triple
stretch a b l = drop a (take b l)

-- the moves that later takes must answer
abbrev pub due : ℕ → History → ℕ → List ℕ → List Triple
due capacity h who board = stretch (next h who) (limit capacity h who board) (log h board)
