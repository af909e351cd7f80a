-- When a relay with its queues stands at a history, and when a step leads from one relay to another.
use Rattle.std.specs.Prelude.{◌≡◌, ℕ, nat_eq, List, ◌∷◌, length, map, option_map}
use Rattle.std.specs.Map.{lookup}
use Rattle.c960_game.specs.Limits.{LimitNumbers}
use Rattle.relay_core.specs.declared.reply.Reply.{Reply}
use Rattle.relay_core.specs.declared.step.Step.{Step}
use Rattle.relay_core.specs.Following.{following, board_of, joined, taken, closing_of, due}
use Rattle.relay_core.specs.Held.{HeldFollower, Held}
use Rattle.relay_core.specs.History.{History, opened, start_of}
use Rattle.relay_core.specs.Name.{same_name}
use Rattle.relay_core.specs.Replies.{LawfulHistory}
use Rattle.relay_core.specs.Stands.{game_of}

-- a spectator that follows this board, with the moves due to it in its queue
abbrev pub held_follower_of : LimitNumbers → History → ℕ → List ℕ → HeldFollower
held_follower_of limits h who board = record {
  board = board;
  joined = joined h who;
  taken = length (taken h who);
  cut = closing_of limits.capacity h who;
  queue = due limits.capacity h who board;
  capacity = limits.capacity;
}

-- `Stands`, with the queues
pub record HeldStands (limits : LimitNumbers) (r : Held) (h : History) : Type 0 where
  pub given : r.limits ≡ limits
  pub lawful : LawfulHistory limits h
  pub boards : (board : List ℕ)
      → lookup (same_name board) r.boards ≡ option_map (game_of limits h board) (start_of h board)
  pub followers : (who : ℕ)
      → lookup (nat_eq who) r.followers ≡ option_map (held_follower_of limits h who) (board_of h who)
  pub board_count : length r.boards ≡ length (opened h)
  pub followed : map (λ e. (e.0, e.1.board)) r.followers ≡ following h

-- it holds exactly what some history says
pub record IsKept (r : Held) : Type 0 where
  pub history : History
  pub stands : HeldStands r.limits r history

-- the step with this reply leads from one relay to the other
abbrev pub Goes : Held → Held → Step → Reply → Type 0
Goes r later s reply =
    (limits : LimitNumbers) (h : History) → HeldStands limits r h → HeldStands limits later ((s, reply) ∷ h)
