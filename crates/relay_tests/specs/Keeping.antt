-- What a keeper over a relay keeps, says and makes.
use Rattle.std.specs.Prelude.{◌≡◌, ℕ, ◌≤◌, Bool, false, cond, is_some, List, [], ◌∷◌, ◌++◌, map, Option, Some, None}
use Rattle.c960_game.specs.Limits.{LimitNumbers}
use Rattle.relay_core.specs.declared.step.Step.{Step}
use Rattle.relay_core.specs.declared.step.Step.TheVariants.{Open}
use Rattle.relay_core.specs.declared.reply.Reply.{Reply}
use Rattle.relay_core.specs.History.{History, is_accepted, opened, start_of}
use Rattle.relay_core.specs.Leads.{Leads}
use Rattle.relay_core.specs.Stands.{Stands}
use Rattle.relay_core.specs.State.{RelayRecord}
use Rattle.relay_pushing.specs.Connections as asks

-- The relay stands at a history, the names are those of the boards that were opened there, in order, and there is room for as many
-- as may be opened.
pub record IsKeeping (relay : RelayRecord) (names : List (List ℕ)) (room : ℕ) : Type 0 where
  pub history : History
  pub stands : Stands relay.limits relay history
  pub named : names ≡ map (λ e. e.0) (opened history)
  pub fits : relay.limits.boards ≤ room

-- the board that a step with this reply has opened
abbrev pub board_opened : Step → Reply → Option (List ℕ)
board_opened (Open board start) reply = cond (is_accepted reply) (Some board) None
board_opened _ reply = None

-- the names with that of another board
abbrev pub names_with : List (List ℕ) → Option (List ℕ) → List (List ℕ)
names_with names None = names
names_with names (Some board) = names ++ board ∷ []

-- asked about a board, the keeper says whether one of this name was opened in the history
abbrev pub Knows : RelayRecord → List ℕ → Bool → Type 0
Knows relay board known = (limits : LimitNumbers) (h : History) → Stands limits relay h → known ≡ is_some (start_of h board)

-- asked, the keeper says whether it knows a board, and that none belongs to a connection except those that this one opened
abbrev pub Tells : RelayRecord → asks.Question → Bool → Type 0
Tells relay (asks.Knows board) known = Knows relay board known
Tells relay (asks.Owns board) owned = owned ≡ false
Tells relay asks.OwnsAny owned = owned ≡ false

-- the history is extended by the step with this reply, which it requires
abbrev pub Makes : RelayRecord → Step → Reply → RelayRecord → Type 0
Makes old step reply later = Leads old later step reply
