-- What a driver asks of the connections of a service.
use Rattle.std.specs.Prelude.{◌||◌, ℕ, Bool, cond, false, true, length, nat_lt, not, option_map, Option, None, Some}
use Rattle.live_board.specs.Views.{next_of}
use Rattle.relay_frames.specs.Reading.{is_midway}
use Rattle.relay_frames.specs.declared.output.TheConstants.{MOST_OUTPUT}
use Rattle.relay_pushing.specs.Connections.{OwnsAny}
use Rattle.relay_hall.specs.Reading.{place_of}
use Rattle.relay_hall.specs.Record.{FloorRecord}
use Rattle.relay_hall.specs.Steps.{tells_of}
use Rattle.relay_hall.specs.Talk.{are_none}
use Rattle.relay_service.specs.Calling.Answering.{OperatorRecord}
use Rattle.relay_service.specs.declared.calling.stage.Stage as calling
use Rattle.relay_service.specs.declared.calling.stage.Stage.TheVariants as operators
use Rattle.relay_service.specs.declared.following.stage.Stage as following
use Rattle.relay_service.specs.declared.following.stage.Stage.TheVariants as followers
use Rattle.relay_service.specs.Following.Calls.{is_full}
use Rattle.relay_service.specs.Following.Record.{ConnectionRecord, follows}
use Rattle.relay_service.specs.declared.connection.Connection.{Connection}
use Rattle.relay_service.specs.declared.connection.Connection.TheVariants.{Operator, Follower}
use Rattle.relay_service.specs.declared.stage.Stage.{Stage}
use Rattle.relay_service.specs.declared.stage.Stage.TheVariants.{Comes, Asks, Follows, Leaves}
use Rattle.relay_service.specs.Record.{ServiceRecord, connection_at, follower_at, operator_at}

-- what an operator's connection does that is present in the hall; one that follows is none any more
abbrev pub stage_of_operator : calling.Stage → Stage
stage_of_operator operators.Comes = Comes
stage_of_operator operators.Asks = Asks
stage_of_operator operators.HandsOver = Follows
stage_of_operator operators.Leaves = Leaves

abbrev pub stage_of_follower : following.Stage → Stage
stage_of_follower followers.Follows = Follows
stage_of_follower (followers.Over outcome) = Leaves
stage_of_follower followers.Cut = Leaves
stage_of_follower followers.Left = Leaves
stage_of_follower followers.Failed = Leaves

abbrev pub stage_of : Connection → Stage
stage_of (Operator c here) = cond here (stage_of_operator c.stage) Leaves
stage_of (Follower f who here) = stage_of_follower f.delivery.stage

abbrev pub stage_at : ServiceRecord → ℕ → Option Stage
stage_at s number = option_map stage_of (connection_at s number)

-- the index of the board that it follows, or did
abbrev pub place_in : FloorRecord → Option ConnectionRecord → Option ℕ
place_in floor None = None
place_in floor (Some f) = place_of floor f.delivery.board

abbrev pub place_at : ServiceRecord → ℕ → Option ℕ
place_at s number = place_in s.hall.floor (follower_at s number)

abbrev pub next_in : Option ConnectionRecord → Option ℕ
next_in None = None
next_in (Some f) = cond (follows f.delivery.stage) (Some (next_of f.delivery.follower.part)) None

abbrev pub next_at : ServiceRecord → ℕ → Option ℕ
next_at s number = next_in (follower_at s number)

-- it was cut off from the board that it followed, and told so
abbrev pub is_cut : following.Stage → Bool
is_cut followers.Follows = false
is_cut (followers.Over outcome) = false
is_cut followers.Cut = true
is_cut followers.Left = false
is_cut followers.Failed = false

abbrev pub was_cut_in : Option Connection → Bool
was_cut_in None = false
was_cut_in (Some (Operator c here)) = false
was_cut_in (Some (Follower f who here)) = is_cut f.delivery.stage

abbrev pub was_cut_at : ServiceRecord → ℕ → Bool
was_cut_at s number = was_cut_in (connection_at s number)

abbrev pub owns_in : FloorRecord → Option OperatorRecord → Bool
owns_in floor None = false
owns_in floor (Some c) = not (are_none c.boards) || tells_of floor c.who OwnsAny

abbrev pub owns_any : ServiceRecord → ℕ → Bool
owns_any s number = owns_in s.hall.floor (operator_at s number)

abbrev pub is_full_in : Option Connection → Bool
is_full_in None = false
is_full_in (Some (Operator c here)) = nat_lt MOST_OUTPUT (length c.due)
is_full_in (Some (Follower f who here)) = is_full f.delivery

abbrev pub is_full_at : ServiceRecord → ℕ → Bool
is_full_at s number = is_full_in (connection_at s number)

abbrev pub is_midway_in : Option Connection → Bool
is_midway_in None = false
is_midway_in (Some (Operator c here)) = is_midway c.reading
is_midway_in (Some (Follower f who here)) = is_midway f.reading

abbrev pub is_midway_at : ServiceRecord → ℕ → Bool
is_midway_at s number = is_midway_in (connection_at s number)
