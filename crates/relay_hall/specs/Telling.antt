-- How a connection is told of a follower that was handed out to it.
use Rattle.std.specs.Prelude.{◌≡◌}
use Rattle.c960_game.specs.Positions.{last_position}
use Rattle.relay_core.specs.declared.reply.Reply.{Reply}
use Rattle.relay_core.specs.declared.reply.Reply.TheVariants.{Following}
use Rattle.live_board.specs.Seats.{FollowerSeat}
use Rattle.live_board.specs.Views.{next_of}

-- A reply reports this follower, which has taken nothing yet: the place from which it takes, where it joined, and the position there, which
-- is the one after the moves before that place.
pub record Tells (f : FollowerSeat) (reply : Reply) : Type 0 where
  pub is : reply ≡ Following (next_of f.part) (last_position f.part.setup.start f.part.before)
  pub joined : next_of f.part ≡ f.part.joined
