-- What shows how a connection relates to its board, and what is kept true of it.
use Rattle.std.specs.Prelude.{◌≡◌, ℕ, [], ◌∷◌, Option, None, Some, IsSomeAnd, unwrap_or}
use Rattle.live_board.specs.Seats.{BoardSeat, FollowerSeat}
use Rattle.live_board.specs.Views.{learns, sees}
use Rattle.relay_service.specs.declared.following.standing.Standing.TheInside.{Inside}
use Rattle.relay_service.specs.declared.following.stage.Stage.{Stage}
use Rattle.relay_service.specs.declared.following.stage.Stage.TheVariants.{Follows}
use Rattle.relay_service.specs.Following.Record.{StandingRecord}

-- its follower, or what that had when it left
abbrev pub standing_of : Inside → StandingRecord
standing_of a = record { follower = unwrap_or a.follower a.had.value; stage = a.stage }

-- this remains of a follower that had this and left its board: its slot is free
abbrev pub IsLeftBy : FollowerSeat → BoardSeat → Type 0
IsLeftBy f g = (g.table ≡ f.table) × (g.knows.parts ≡ []) × ((status : ℕ) × (cursor : ℕ) × (g.knows.gone ≡ learns cursor (sees status f.part) ∷ []))

-- it has a follower while it follows; then that has left, and only what remains of it is there
abbrev pub IsStandingBy : Option FollowerSeat → FollowerSeat → Option BoardSeat → Stage → Type 0
IsStandingBy (Some f) had remains stage = stage ≡ Follows
IsStandingBy None had remains stage = (stage ≡ Follows → ⊥) × IsSomeAnd remains (λ g. IsLeftBy had g)

abbrev pub IsStanding : Inside → Type 0
IsStanding a = IsStandingBy a.follower a.had.value a.gone a.stage
