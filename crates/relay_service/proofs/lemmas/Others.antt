-- Whatever is done to one connection, the connections of all other numbers stay as they are.
use Rattle.std.proofs.Common.{◌≡◌, ◌⊎◌, ℕ, nat_eq, List, Bool, true, false, cond, Option, None, Some, inl, inr, ap, ◌∙◌}
use Rattle.std.specs.Prelude.{MatchOption}
use Rattle.relay_hall.specs.declared.owner.Owner.{Owner}
use Rattle.relay_hall.specs.Runs.{HallEvent}
use Rattle.relay_service.specs.Calling.Answering.{OperatorRecord}
use Rattle.relay_service.specs.Calling.Running.{Deed}
use Rattle.relay_service.specs.Following.Record.{ConnectionRecord}
use Rattle.relay_service.specs.declared.connection.Connection.{Connection}
use Rattle.relay_service.specs.declared.connection.Connection.TheVariants.{Operator, Follower}
use Rattle.relay_service.specs.Calls.{AnswersAt, Arrives, Departs, DisconnectsAt, Does, FailsAt, ForEach, Forgets, LeavesAt, Loses, OthersStay, Passes, PushFailsAt, PushesAt, PutsAt, Receives, ReceivesAt, Replaces, SendsAt, SendsIn, Serves, arrival}
use Rattle.relay_service.specs.Record.{ServiceRecord, connection_at, connection_in, follower_at, owner_at}

-- ---- What is done.

replaced : (number : ℕ) (c : Option Connection) (before after : List (ℕ × Connection)) → Replaces number c before after → (q : ℕ) → nat_eq number q ≡ false → connection_in after q ≡ connection_in before q
replaced number c before after new q other = new q ∙ ap (λ (b : Bool). cond b c (connection_in before q)) other

unchanged : (s : ServiceRecord) (number : ℕ) (t : ServiceRecord) → t ≡ s → OthersStay s number t
unchanged s number t same q other = ap (λ (r : ServiceRecord). connection_at r q) same

then_others : (s mid t : ServiceRecord) (number : ℕ) → OthersStay s number mid → OthersStay mid number t → OthersStay s number t
then_others s mid t number first next q other = next q other ∙ first q other

pub deed_others : (s : ServiceRecord) (number : ℕ) (x : Deed) (t : ServiceRecord) → Does s number x t → OthersStay s number t
deed_others s number x t d = replaced number (Some d.after) s.connections t.connections d.connections

pub served_others : (s : ServiceRecord) (number : ℕ) (P : ConnectionRecord → ConnectionRecord → Type 0) (t : ServiceRecord) → Serves s number P t → OthersStay s number t
served_others s number P t v = replaced number (Some (Follower v.after v.who v.is_present)) s.connections t.connections v.connections

pub passed_others : (s : ServiceRecord) (e : HallEvent) (t : ServiceRecord) (number : ℕ) → Passes s e t → OthersStay s number t
passed_others s e t number p q other = ap (λ (r : ServiceRecord). connection_at r q) p.rest

forgotten_others : (s : ServiceRecord) (number : ℕ) (t : ServiceRecord) → Forgets s number t → OthersStay s number t
forgotten_others s number t gone = replaced number None s.connections t.connections gone.0

departed_others : (s : ServiceRecord) (number : ℕ) (who : Owner) (c : Option Connection) (t : ServiceRecord) → Departs s number who c t → OthersStay s number t
departed_others s number who c t d = replaced number c s.connections t.connections d.connections

-- ---- Each call.

each : (X : Type 0) (o : Option Connection) (N : Type 0) (O : OperatorRecord → Type 0) (F : ConnectionRecord → Type 0) → (N → X) → ((c : OperatorRecord) → O c → X) → ((f : ConnectionRecord) → F f → X) → ForEach o N O F → X
each X None N O F n o f is = n is
each X (Some (Operator c true)) N O F n o f is = o c is
each X (Some (Operator c false)) N O F n o f is = n is
each X (Some (Follower g who here)) N O F n o f is = f g is

if_some : {A : Type 0} (X : Type 0) (o : Option A) (N : Type 0) (P : A → Type 0) → (N → X) → ((x : A) → P x → X) → MatchOption o N P → X
if_some X None N P n p is = n is
if_some X (Some x) N P n p is = p x is

arrived_others : (key : Option (List ℕ)) (mid t : ServiceRecord) (number : ℕ) → Arrives key mid t → OthersStay mid number t
arrived_others None mid t number same = unchanged mid number t same
arrived_others (Some key) mid t number p = passed_others mid _ t number p

received_one : (s : ServiceRecord) (number : ℕ) (bytes : List ℕ) (t : ServiceRecord) → Receives s number bytes t → OthersStay s number t
received_one s number bytes t r =
    then_others s r.mid t number (deed_others s number _ r.mid r.fed) (arrived_others (arrival r.fed.does.connection r.fed.does.then) r.mid t number r.arrives)

pub received_others : (s : ServiceRecord) (number : ℕ) (bytes : List ℕ) (t : ServiceRecord) → ReceivesAt s number bytes t → OthersStay s number t
received_others s number bytes t is =
    each (OthersStay s number t) (connection_at s number) _ _ _ (unchanged s number t) (λ c r. received_one s number bytes t r) (λ f v. served_others s number _ t v) is

pub lost_others : (s : ServiceRecord) (number : ℕ) (bytes : List ℕ) (t : ServiceRecord) → ((t ≡ s) ⊎ Loses s number bytes t) → OthersStay s number t
lost_others s number bytes t (inl same) = unchanged s number t same
lost_others s number bytes t (inr l) = then_others s l.mid t number (deed_others s number _ l.mid l.fed) (forgotten_others l.mid number t l.gone)

pub answered_others : (s : ServiceRecord) (number : ℕ) (some : Bool) (t : ServiceRecord) → AnswersAt s number some t → OthersStay s number t
answered_others s number some t is =
    each (OthersStay s number t) (connection_at s number) _ _ _ (λ n. unchanged s number t n.1) (λ c a. deed_others s number _ t a.1) (λ f v. served_others s number _ t v) is

pub failed_others : (s : ServiceRecord) (number : ℕ) (t : ServiceRecord) → FailsAt s number t → OthersStay s number t
failed_others s number t is =
    each (OthersStay s number t) (connection_at s number) _ _ _ (λ no. absurd no) (λ c a. deed_others s number _ t a.1) (λ f v. served_others s number _ t v) is

pub pushed_others : (s : ServiceRecord) (number most : ℕ) (more : Bool) (t : ServiceRecord) → PushesAt s number most more t → OthersStay s number t
pushed_others s number most more t is = if_some (OthersStay s number t) (follower_at s number) _ _ (λ n. unchanged s number t n.1) (λ f v. served_others s number _ t v) is

pub push_failed_others : (s : ServiceRecord) (number most : ℕ) (t : ServiceRecord) → PushFailsAt s number most t → OthersStay s number t
push_failed_others s number most t is = if_some (OthersStay s number t) (follower_at s number) _ _ (λ no. absurd no) (λ f v. served_others s number _ t v) is

pub sent_others : (s : ServiceRecord) (number n : ℕ) (t : ServiceRecord) → SendsAt s number n t → OthersStay s number t
sent_others s number n t is = by (connection_at s number) is
  where
    by : (o : Option Connection) → SendsIn o s number n t → OthersStay s number t
    by None same = unchanged s number t same
    by (Some (Operator c here)) d = deed_others s number _ t d
    by (Some (Follower f who here)) v = served_others s number _ t v

pub put_others : (s : ServiceRecord) (number : ℕ) (x : Bool → Deed) (put : ConnectionRecord → ConnectionRecord) (t : ServiceRecord) → PutsAt s number x put t → OthersStay s number t
put_others s number x put t is =
    each (OthersStay s number t) (connection_at s number) _ _ _ (unchanged s number t) (λ c d. deed_others s number _ t d) (λ f v. served_others s number _ t v) is

pub left_others : (s : ServiceRecord) (number : ℕ) (t : ServiceRecord) → LeavesAt s number t → OthersStay s number t
left_others s number t is =
    if_some (OthersStay s number t) (owner_at s number) _ _ (unchanged s number t) (λ who l. departed_others s number who _ t l.4) is

pub disconnected_others : (s : ServiceRecord) (number : ℕ) (t : ServiceRecord) → DisconnectsAt s number t → OthersStay s number t
disconnected_others s number t is =
    if_some (OthersStay s number t) (owner_at s number) _ _ (forgotten_others s number t) (λ who d. departed_others s number who None t d) is
