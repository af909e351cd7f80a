-- What becomes of a connection by a deed: it is an operator's still, or follows what was handed out.
use Rattle.std.proofs.Common.{◌≡◌, Bool, true, false, cond, is_some, Option, None, Some, refl, sym, ap, ◌∙◌}
use Rattle.std.proofs.lemmas.Option.{none-some}
use Rattle.relay_hall.specs.declared.handed.Handed.{Handed}
use Rattle.relay_hall.specs.Record.{FloorRecord}
use Rattle.relay_service.specs.Calling.Answering.{OperatorRecord, is_the_last, left_after, stage_after}
use Rattle.relay_service.specs.declared.calling.stage.Stage.TheVariants.{HandsOver}
use Rattle.relay_service.specs.Calling.Running.{Deed, IsDone, came, failed, was_answered, was_pinged, was_sent_away, wrote}
use Rattle.relay_service.specs.Following.Boards.{IsIn}
use Rattle.relay_service.specs.Following.Record.{newcomer}
use Rattle.relay_service.specs.declared.connection.Connection.{Connection}
use Rattle.relay_service.specs.declared.connection.Connection.TheVariants.{Operator, Follower}
use Rattle.relay_service.specs.Calls.{becomes, heard_as}
use Rattle.relay_service.specs.Inner.{IsJoined, IsOperatorOf, NamesNone, NamesNoneYet, OwnsOpened}
use Rattle.relay_service.specs.Record.{owner_in}

-- what was handed out by a deed, and follows
abbrev pub handed_of : Deed → Option Handed
handed_of (came bytes) = None
handed_of (was_answered some m) = m.handed
handed_of (failed m) = None
handed_of (wrote bytes) = None
handed_of (was_pinged some) = None
handed_of (was_sent_away some code) = None

-- true of the operator's, if nothing was handed out, and of the one that follows, if something was
becomes_with : (P : Connection → Type 0) (x : Deed) (d : OperatorRecord) (here : Bool) → (handed_of x ≡ None → P (Operator d here))
    → ((h : Handed) → handed_of x ≡ Some h → P (Follower (newcomer h d.reading d.due) d.who here)) → P (becomes x d here)
becomes_with P (came bytes) d here o f = o refl
becomes_with P (was_answered some m) d here o f = by m.handed refl
  where
    by : (h : Option Handed) → m.handed ≡ h → P (heard_as h d here)
    by None is = o is
    by (Some h) is = f h is
becomes_with P (failed m) d here o f = o refl
becomes_with P (wrote bytes) d here o f = o refl
becomes_with P (was_pinged some) d here o f = o refl
becomes_with P (was_sent_away some code) d here o f = o refl

pub becomes_same : (x : Deed) (d : OperatorRecord) (here : Bool) → handed_of x ≡ None → becomes x d here ≡ Operator d here
becomes_same x d here nothing = becomes_with (λ c. c ≡ Operator d here) x d here (λ none. refl) (λ h is. absurd (none-some h (sym nothing ∙ is)))

-- whoever was handed out something asks no more
hands : (c : OperatorRecord) (x : Deed) (d : OperatorRecord) (h : Handed) → handed_of x ≡ Some h → IsDone c x d → d.stage ≡ HandsOver
hands c (came bytes) d h is done = absurd (none-some h is)
hands c (was_answered true m) d h is (t, asking, says, (frames, met, d-is)) =
    ap (λ (e : OperatorRecord). e.stage) d-is ∙ ap (λ (o : Option Handed). stage_after (is_some o) (is_the_last (left_after c.left t) t)) is
hands c (was_answered false m) d h is (none, same, d-is, more) = absurd (none-some h (sym none ∙ is))
hands c (failed m) d h is done = absurd (none-some h is)
hands c (wrote bytes) d h is done = absurd (none-some h is)
hands c (was_pinged some) d h is done = absurd (none-some h is)
hands c (was_sent_away some code) d h is done = absurd (none-some h is)

pub owner_becomes : (x : Deed) (d : OperatorRecord) (here : Bool) → owner_in (Some (becomes x d here)) ≡ cond here (Some d.who) None
owner_becomes x d here = becomes_with (λ c. owner_in (Some c) ≡ cond here (Some d.who) None) x d here (λ none. refl) (λ h is. refl)

pub operator_becomes : (c : OperatorRecord) (x : Deed) (d : OperatorRecord) (here : Bool) → IsDone c x d → IsOperatorOf d (becomes x d here)
operator_becomes c x d here done = becomes_with (IsOperatorOf d) x d here (λ none. refl) (λ h is. (refl, hands c x d h is done, refl))

pub names_becomes : (x : Deed) (d : OperatorRecord) (here : Bool) → NamesNone d → NamesNoneYet (becomes x d here)
names_becomes x d here names = becomes_with NamesNoneYet x d here (λ none. names) (λ h is. tt)

pub opened_becomes : (f : FloorRecord) (x : Deed) (d : OperatorRecord) (here : Bool) → OwnsOpened f (Operator d here) → OwnsOpened f (becomes x d here)
opened_becomes f x d here owns = becomes_with (OwnsOpened f) x d here (λ none. owns) (λ h is. tt)

-- the board that it follows then is of this hall
abbrev pub IsHandedOut : FloorRecord → Deed → OperatorRecord → Type 0
IsHandedOut f x d = (h : Handed) → handed_of x ≡ Some h → IsIn f (newcomer h d.reading d.due).delivery

pub joined_becomes : (f : FloorRecord) (x : Deed) (d : OperatorRecord) (here : Bool) → IsHandedOut f x d → IsJoined f (becomes x d here)
joined_becomes f x d here out = becomes_with (IsJoined f) x d here (λ none. tt) out

pub nothing_out : (f : FloorRecord) (x : Deed) (d : OperatorRecord) → handed_of x ≡ None → IsHandedOut f x d
nothing_out f x d nothing h is = absurd (none-some h (sym nothing ∙ is))
