-- What is missing of boards in a journal: the entries that lead from the boards that it has to those that there are.
use Rattle.std.specs.Prelude.{◌≡◌, ◌⊎◌, ℕ, nat_lt, cond, List, [], ◌∷◌, ◌++◌, drop, length, map, Option, Some, None}
use Rattle.c960_board.specs.declared.piece.Colour.{Colour}
use Rattle.c960_board.specs.Moves.{Triple}
use Rattle.c960_game.specs.declared.ending.Ending.{Ending}
use Rattle.c960_game.specs.declared.ending.Ending.TheVariants as by
use Rattle.c960_game.specs.declared.outcome.Outcome.{Outcome}
use Rattle.c960_game.specs.declared.outcome.Outcome.TheVariants.{Resigned, Agreed, Abandoned, Threefold, Fifty, LostOnTime, Decided}
use Rattle.c960_game.specs.Ending.{named_outcome}
use Rattle.c960_game.specs.Ends.{own_outcome}
use Rattle.c960_game.specs.Positions.{last_position}
use Rattle.relay_journal.specs.declared.entry.Entry.{Entry}
use Rattle.relay_journal.specs.declared.entry.Entry.TheVariants.{Opens, Plays, Ends}
use Rattle.relay_journal.specs.Kept.{KeptBoard, new_kept}

-- the ending that names an outcome, when this side has the move; none names those that a log has by itself
abbrev pub ending_for : Colour → Outcome → Option Ending
ending_for turn (Resigned side) = Some (by.Resigns side)
ending_for turn Agreed = Some by.Agreed
ending_for turn Abandoned = Some by.Abandoned
ending_for turn Threefold = Some (by.ClaimThreefold turn)
ending_for turn Fifty = Some (by.ClaimFifty turn)
ending_for turn (LostOnTime side) = Some (by.LosesOnTime side)
ending_for turn (Decided result) = Some (by.Decided result)
ending_for turn _ = None

-- who has the move
abbrev pub turn_of : KeptBoard → Colour
turn_of b = (last_position b.start b.log).turn

abbrev pub end_entry : List ℕ → Option Ending → List Entry
end_entry name (Some ending) = Ends name ending ∷ []
end_entry name None = []

-- the entry of an outcome that was not there
abbrev pub ends_as : List ℕ → Colour → Option Outcome → Option Outcome → List Entry
ends_as name turn None (Some outcome) = end_entry name (ending_for turn outcome)
ends_as name turn None None = []
ends_as name turn (Some before) now = []

-- the outcome once the moves that are missing are made
abbrev pub moved_outcome : KeptBoard → KeptBoard → Option Outcome
moved_outcome old new = cond (nat_lt (length old.log) (length new.log)) (own_outcome new.start new.log) old.outcome

-- what is missing of a board
abbrev pub missing_of : List ℕ → KeptBoard → KeptBoard → List Entry
missing_of name old new =
    map (λ m. Plays name m) (drop (length old.log) new.log) ++ ends_as name (turn_of new) (moved_outcome old new) new.outcome

-- of all boards, those that are new at the end
abbrev pub missing : List (List ℕ × KeptBoard) → List (List ℕ × KeptBoard) → List Entry
missing [] [] = []
missing [] (e ∷ es) = Opens e.0 e.1.start e.1.key ∷ (missing_of e.0 (new_kept e.1.start e.1.key) e.1 ++ missing [] es)
missing (o ∷ os) [] = []
missing (o ∷ os) (e ∷ es) = missing_of e.0 o.1 e.1 ++ missing os es

-- ---- What a hall may have done meanwhile.

-- a board has gone on: moves were played, and then its game may have been ended
pub record GoesOn (old new : KeptBoard) : Type 0 where
  pub start : new.start ≡ old.start
  pub key : new.key ≡ old.key
  pub more : List Triple
  pub log : new.log ≡ old.log ++ more
  pub outcome : (new.outcome ≡ moved_outcome old new) ⊎ ((moved_outcome old new ≡ None) × (ending : Ending) × (new.outcome ≡ Some (named_outcome ending)))

-- all boards have, and others were opened
abbrev pub AllGoOn : List (List ℕ × KeptBoard) → List (List ℕ × KeptBoard) → Type 0
AllGoOn [] [] = Unit {0}
AllGoOn [] (e ∷ es) = GoesOn (new_kept e.1.start e.1.key) e.1 × AllGoOn [] es
AllGoOn (o ∷ os) [] = ⊥
AllGoOn (o ∷ os) (e ∷ es) = (e.0 ≡ o.0) × GoesOn o.1 e.1 × AllGoOn os es
