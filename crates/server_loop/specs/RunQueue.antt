-- Which connections are due a turn, as contracts see them.
use Rattle.std.specs.Prelude.{ℕ, List, [], ◌∷◌, ◌++◌, drop, length, Option, option_map, slice_get}
use Rattle.server_loop.specs.declared.run_queue.Rank.{Rank}
use Rattle.server_loop.specs.declared.run_queue.Rank.TheVariants.{Owner, Sibling, Follower, Other}
use Rattle.server_loop.specs.declared.run_queue.Waiting.{Waiting}

-- the keys of those of each rank, in the order in which they became due
pub record RunQueueRecord : Type 0 where
  pub owners : List ℕ
  pub siblings : List ℕ
  pub followers : List ℕ
  pub others : List Waiting

abbrev pub nothing_due : RunQueueRecord
nothing_due = record { owners = []; siblings = []; followers = []; others = [] }

-- one more of this rank is due, from this millisecond on
abbrev pub with_due : RunQueueRecord → ℕ → Rank → ℕ → RunQueueRecord
with_due d key Owner now = record d { owners = d.owners ++ key ∷ [] }
with_due d key Sibling now = record d { siblings = d.siblings ++ key ∷ [] }
with_due d key Follower now = record d { followers = d.followers ++ key ∷ [] }
with_due d key Other now = record d { others = d.others ++ (record { key = key; since = now }) ∷ [] }

-- the first of this rank
abbrev pub first_of : RunQueueRecord → Rank → Option ℕ
first_of d Owner = slice_get d.owners 0
first_of d Sibling = slice_get d.siblings 0
first_of d Follower = slice_get d.followers 0
first_of d Other = option_map (λ w. w.key) (slice_get d.others 0)

-- that one has its turn
abbrev pub without_first : RunQueueRecord → Rank → RunQueueRecord
without_first d Owner = record d { owners = drop 1 d.owners }
without_first d Sibling = record d { siblings = drop 1 d.siblings }
without_first d Follower = record d { followers = drop 1 d.followers }
without_first d Other = record d { others = drop 1 d.others }

abbrev pub count_of : RunQueueRecord → Rank → ℕ
count_of d Owner = length d.owners
count_of d Sibling = length d.siblings
count_of d Follower = length d.followers
count_of d Other = length d.others
