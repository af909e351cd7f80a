-- Why an open and a follow are refused, memory aside: the grounds in their order, each with its refusal. The first that holds is named.
use Rattle.std.specs.Prelude.{ℕ, ◌-◌, nat_le, nat_lt, Bool, List, [], ◌∷◌, ◌++◌, cond, Result, Ok, Err}
use Rattle.c960_game.specs.declared.refusal.Refusal.{Refusal}
use Rattle.c960_game.specs.declared.refusal.Refusal.TheVariants.{BoardExists, BadStart, TooManyBoards, FollowerExists, NotYet, TooFarBack, TooManyFollowers}
use Rattle.c960_board.specs.declared.numbering.TheConstants.{STARTS}

-- the refusal of the first ground that holds, or none
abbrev pub first_refusal : List (Bool × Refusal) → Result Unit Refusal
first_refusal [] = Ok tt
first_refusal (one ∷ rest) = cond one.0 (Err one.1) (first_refusal rest)

-- of an open: a board has the name; there is no such start; there are as many boards as there may be
abbrev pub open_grounds : Bool → ℕ → ℕ → ℕ → List (Bool × Refusal)
open_grounds named start boards most =
    (named, BoardExists) ∷ (nat_le STARTS start, BadStart) ∷ (nat_le most boards, TooManyBoards) ∷ []

-- of a place to join at: the log, of this length, has not reached it; a queue does not hold the moves since
abbrev pub place_grounds : ℕ → ℕ → ℕ → List (Bool × Refusal)
place_grounds long place capacity =
    (nat_lt long place, NotYet) ∷ (nat_lt capacity (long - place), TooFarBack) ∷ []

-- of a follow: the spectator follows already; a ground against its place; the board has as many followers as it may have
abbrev pub follow_grounds : Bool → ℕ → ℕ → ℕ → Bool → List (Bool × Refusal)
follow_grounds follows long place capacity full =
    (follows, FollowerExists) ∷ (place_grounds long place capacity ++ (full, TooManyFollowers) ∷ [])
