-- What a call of the service makes of its hall: one event at most.
use Rattle.std.proofs.Common.{◌≡◌, ℕ, Bool, true, false, Option, None, Some, Result, Ok, Err, IfOk, OnErr, inl, inr, ap}
use Rattle.relay_hall.specs.declared.handed.Handed.{Handed}
use Rattle.relay_hall.specs.declared.owner.Owner.{Owner}
use Rattle.relay_hall.specs.Record.{HallRecord}
use Rattle.relay_hall.specs.Runs.{Goes, HallEvent, IsOneStep, Replied, Says, Silent}
use Rattle.relay_service.specs.Calling.Answering.{AnswersNext, Fails, OperatorRecord}
use Rattle.relay_service.specs.Following.Calls as following
use Rattle.relay_service.specs.Following.Record.{ConnectionRecord}
use Rattle.relay_service.specs.declared.connection.Connection.{Connection}
use Rattle.relay_service.specs.declared.connection.Connection.TheVariants.{Operator, Follower}
use Rattle.relay_service.specs.Calls.{AnswersAt, AnswersOperator, Departs, DisconnectsAt, FailsAt, FailsOperator, ForEach, Forgets, LeavesAs, LeavesAt, Passes, Serves}
use Rattle.relay_service.specs.Record.{ServiceRecord, connection_at, owner_at}
use Rattle.std.specs.Prelude.{MatchOption}
use Rattle.relay_durable.specs.Keeping.{IsOneEvent}

-- the same service has the same hall
same_hall : (s t : ServiceRecord) → t ≡ s → t.hall ≡ s.hall
same_hall s t same = ap (λ (r : ServiceRecord). r.hall) same

none : (s t : ServiceRecord) → t ≡ s → IsOneEvent s.hall t.hall
none s t same = inr (same_hall s t same)

-- one that follows is served, and nothing happens in the hall
serves_hall : (s : ServiceRecord) (number : ℕ) (P : ConnectionRecord → ConnectionRecord → Type 0) (t : ServiceRecord) → Serves s number P t → t.hall ≡ s.hall
serves_hall s number P t v = ap (λ (r : ServiceRecord). r.hall) v.rest

-- ---- What is answered.

once : (k l : HallRecord) (who : Owner) (handed : Option Handed) → IsOneStep k who handed l → IsOneEvent k l
once k l who handed (inl (step, reply, made)) = inl (Says who step, Replied reply handed, made)
once k l who handed (inr (same, nothing)) = inr same

abbrev pub AnsweredOnce : Type 0
AnsweredOnce = (some : Bool) (c : OperatorRecord) (k : HallRecord) (handed : Option Handed) (l : HallRecord) (d : OperatorRecord) → AnswersNext some c k handed l d → IsOneStep k c.who handed l

abbrev pub FailedOnce : Type 0
FailedOnce = (c : OperatorRecord) (k : HallRecord) (handed : Option Handed) (l : HallRecord) (d : OperatorRecord) → Fails c k handed l d → IsOneStep k c.who handed l

pub answers : AnsweredOnce → (s : ServiceRecord) (number : ℕ) (some : Bool) (t : ServiceRecord) → AnswersAt s number some t → IsOneEvent s.hall t.hall
answers law s number some t a = by (connection_at s number) a
  where
    by : (o : Option Connection) → ForEach o ((some ≡ false) × (t ≡ s)) (λ c. AnswersOperator s number some t) (λ f. Serves s number (following.Answers some) t) → IsOneEvent s.hall t.hall
    by None (silent, same) = none s t same
    by (Some (Operator c true)) (handed, d) =
        once s.hall t.hall d.does.connection.who handed (law some d.does.connection s.hall handed t.hall d.does.then d.does.done)
    by (Some (Operator c false)) (silent, same) = none s t same
    by (Some (Follower f who here)) v = inr (serves_hall s number (following.Answers some) t v)

pub fails : FailedOnce → (s : ServiceRecord) (number : ℕ) (t : ServiceRecord) → FailsAt s number t → IsOneEvent s.hall t.hall
fails law s number t a = by (connection_at s number) a
  where
    by : (o : Option Connection) → ForEach o ⊥ (λ c. FailsOperator s number t) (λ f. Serves s number following.Fails t) → IsOneEvent s.hall t.hall
    by None impossible = absurd impossible
    by (Some (Operator c true)) (handed, d) =
        once s.hall t.hall d.does.connection.who handed (law d.does.connection s.hall handed t.hall d.does.then d.does.done)
    by (Some (Operator c false)) impossible = absurd impossible
    by (Some (Follower f who here)) v = inr (serves_hall s number following.Fails t v)

-- ---- Who goes, and what passes.

pub leaves : (s : ServiceRecord) (number : ℕ) (t : ServiceRecord) → LeavesAt s number t → IsOneEvent s.hall t.hall
leaves s number t a = by (owner_at s number) a
  where
    by : (o : Option Owner) → MatchOption o (t ≡ s) (λ who. LeavesAs s number who t) → IsOneEvent s.hall t.hall
    by None same = none s t same
    by (Some who) (before, after, is, left, d) = inl (Goes who, Silent, d.step)

pub disconnects : (s : ServiceRecord) (number : ℕ) (t : ServiceRecord) → DisconnectsAt s number t → IsOneEvent s.hall t.hall
disconnects s number t a = by (owner_at s number) a
  where
    by : (o : Option Owner) → MatchOption o (Forgets s number t) (λ who. Departs s number who None t) → IsOneEvent s.hall t.hall
    by None (others, is) = inr (ap (λ (r : ServiceRecord). r.hall) is)
    by (Some who) d = inl (Goes who, Silent, d.step)

pub passed : (s : ServiceRecord) (e : HallEvent) (t : ServiceRecord) → Passes s e t → IsOneEvent s.hall t.hall
passed s e t p = inl (e, Silent, p.step)

-- what was answered, or for what there was no memory
pub answered : {E : Type 0} → AnsweredOnce → FailedOnce → (s : ServiceRecord) (number : ℕ) (r : Result Bool E) (t : ServiceRecord)
    → IfOk r (λ some. AnswersAt s number some t) → OnErr r (FailsAt s number t) → IsOneEvent s.hall t.hall
answered law other s number (Ok some) t ok err = answers law s number some t ok
answered law other s number (Err e) t ok err = fails other s number t err
