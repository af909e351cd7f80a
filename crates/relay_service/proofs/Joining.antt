-- Those that follow do so in the hall of the service, whatever happens.
use Rattle.std.proofs.Common.{◌≡◌, ℕ, List, Option, Some, sym, ◌∙◌, subst}
use Rattle.std.proofs.lemmas.Option.{same_Some}
use Rattle.relay_hall.specs.declared.owner.Owner.{Owner}
use Rattle.relay_hall.specs.Meeting.{BoardsStay}
use Rattle.relay_hall.specs.Record.{FloorRecord}
use Rattle.relay_hall.specs.Runs.{Goes, Silent}
use Rattle.relay_hall.proofs.lemmas.Staying.{step_stays}
use Rattle.relay_service.specs.Calling.Running.{Deed}
use Rattle.relay_service.proofs.FollowingFacts.Boards.{in_on}
use Rattle.relay_service.specs.declared.connection.Connection.{Connection}
use Rattle.relay_service.specs.declared.connection.Connection.TheVariants.{Operator, Follower}
use Rattle.relay_service.specs.Calls.{Departs, Does, Replaces}
use Rattle.relay_service.specs.Inner.{AreJoined, IsJoined}
use Rattle.relay_service.specs.Record.{ServiceRecord, connection_in}
use Rattle.relay_service.proofs.Becoming.{IsHandedOut, joined_becomes}
use Rattle.relay_service.proofs.Connections.{each_after}

pub joined_on : (f g : FloorRecord) (c : Connection) → BoardsStay f g → IsJoined f c → IsJoined g c
joined_on f g (Operator c here) stay is = tt
joined_on f g (Follower h who here) stay is = in_on f g h.delivery stay is

-- another connection has a number, or none
pub joined_after : (f g : FloorRecord) (number : ℕ) (c : Option Connection) (before after : List (ℕ × Connection)) → BoardsStay f g → ((i : ℕ) (d : Connection) → connection_in before i ≡ Some d → IsJoined f d)
    → Replaces number c before after → ((d : Connection) → c ≡ Some d → IsJoined g d) → (i : ℕ) (d : Connection) → connection_in after i ≡ Some d → IsJoined g d
joined_after f g number c before after stay joined replaced new =
    each_after (λ i d. IsJoined g d) number c before after replaced new (λ i d other at. joined_on f g d stay (joined i d at))

pub joined_by_deed : (s : ServiceRecord) (number : ℕ) (x : Deed) (t : ServiceRecord) → AreJoined s → (d : Does s number x t) → BoardsStay s.hall.floor t.hall.floor
    → IsHandedOut t.hall.floor x d.does.then → AreJoined t
joined_by_deed s number x t joined d stay out =
    joined_after s.hall.floor t.hall.floor number (Some d.after) s.connections t.connections stay joined d.connections
    (λ c is. subst (IsJoined t.hall.floor) (sym d.does.is ∙ same_Some _ _ is) (joined_becomes t.hall.floor x d.does.then d.does.is_present out))

pub joined_by_departing : (s : ServiceRecord) (number : ℕ) (who : Owner) (c : Option Connection) (t : ServiceRecord) → AreJoined s → Departs s number who c t
    → ((d : Connection) → c ≡ Some d → IsJoined t.hall.floor d) → AreJoined t
joined_by_departing s number who c t joined d new =
    joined_after s.hall.floor t.hall.floor number c s.connections t.connections (step_stays s.hall (Goes who) Silent t.hall d.step) joined d.connections new
