-- What holds of the fields of the followers of a relay on one thread.
use Rattle.std.specs.Prelude.{ℕ, ◌≡◌, List, map}
use Rattle.relay_core.specs.Held.{HeldFollower}
use Rattle.relay_core.specs.Held.Order.{IsOrderOf}
use Rattle.relay_core.specs.Inner.Tag.{tag_of}

-- the tag of each follower's board, in the order of the map
abbrev pub tags_of : List (ℕ × HeldFollower) → List ℕ
tags_of entries = map (λ e. tag_of e.1.board) entries

-- the order has exactly the spectators of the map, and at each place of the map the tags have that of the follower's board
pub record IsSeating (order tags : List ℕ) (entries : List (ℕ × HeldFollower)) : Type 0 where
  pub ordered : IsOrderOf order entries
  pub tagged : tags ≡ tags_of entries
