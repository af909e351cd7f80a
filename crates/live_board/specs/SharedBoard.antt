-- A shared board between two events.
use Rattle.std.specs.Prelude.{ℕ, ◌+◌, ◌==◌, if◌then◌else◌, List, length, get_or, Option, None}
use Rattle.c960_board.specs.Moves.{Triple}
use Rattle.c960_game.specs.declared.outcome.Outcome.{Outcome}

-- A follower: the place of the log at which it joined, the moves that it has taken, and the log's length at which it was closed,
-- if it was.
pub record SharedFollower : Type 0 where
  pub joined : ℕ
  pub taken : List Triple
  pub closing : Option ℕ

-- The start of the game, its log, its outcome once it is over, and in each slot the follower there, if any.
pub record SharedBoard : Type 0 where
  pub start : ℕ
  pub log : List Triple
  pub outcome : Option Outcome
  pub followers : ℕ → Option SharedFollower

-- the place of the move that the follower takes next
abbrev pub next : SharedFollower → ℕ
next f = f.joined + length f.taken

-- a triple that stands for no move
abbrev pub no_move : Triple
no_move = record { from = 0; to = 0; promotion = None }

-- the move at a place of a list
abbrev pub move_at : List Triple → ℕ → Triple
move_at l place = get_or l place no_move

-- these followers, except that the one in the slot k is now f
abbrev pub with_follower : (ℕ → Option SharedFollower) → ℕ → Option SharedFollower → ℕ → Option SharedFollower
with_follower fs k f slot = if slot == k then f else fs slot
