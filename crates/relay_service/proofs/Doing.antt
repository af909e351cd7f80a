-- What a call did to a connection, from what is told of it.
use Rattle.std.proofs.Common.{◌≡◌, ℕ, List, Bool, true, false, true≢false, is_some, Option, Some, None, Result, Ok, Err, IfOk, OnErr, refl, sym, ap, ◌∙◌, subst}
use Rattle.std.specs.Prelude.{MatchOption}
use Rattle.std.specs.declared.alloc.AllocError.{AllocError}
use Rattle.std.proofs.lemmas.Option.{none-some}
use Rattle.relay_hall.specs.declared.handed.Handed.{Handed}
use Rattle.relay_hall.specs.Record.{HallRecord}
use Rattle.relay_hall.specs.Runs.{HallEvent}
use Rattle.relay_service.specs.Calling.Answering.{OperatorRecord}
use Rattle.relay_service.specs.Calling.Connections.{LeadsHall, happens}
use Rattle.relay_service.specs.Calling.Running.{Deed, Moment, came, failed, was_answered}
use Rattle.relay_service.specs.Following.Record.{ConnectionRecord}
use Rattle.relay_service.specs.declared.connection.Connection.{Connection}
use Rattle.relay_service.specs.declared.connection.Connection.TheVariants.{Operator, Follower}
use Rattle.relay_service.specs.declared.turn.NewDeed.{NewDeed}
use Rattle.relay_service.specs.declared.turn.NewDeed.TheVariants.{Answered, Failed}
use Rattle.relay_service.specs.declared.turn.Moments.{Moments}
use Rattle.relay_service.specs.Calls.{AnswersTo, DoesTo, FailsTo, FeedsTo, ForEach, IfPresent, arrival}
use Rattle.relay_service.specs.Noting.{deed_of, moment_of}
use Rattle.relay_service.specs.Record.{ServiceRecord, connection_at, follower_in, present_at, present_in}
use Rattle.relay_service.specs.Runs.{MadeBy, OneOrNoneOf}
use Rattle.relay_service.proofs.Becoming.{handed_of}
use Rattle.relay_service.proofs.Owners.{IsNoIntake}
use Rattle.relay_service.proofs.Rights.{IsOneRightStep, answers_right, fails_right}

-- ---- Whose it is.

pub match_at : {A : Type 0} (o : Option A) (x : A) (N : Type 0) (P : A → Type 0) → o ≡ Some x → P x → MatchOption o N P
match_at o x N P is p = subst (λ (q : Option _). MatchOption q N P) (sym is) p

pub match_some : {A : Type 0} (o : Option A) (N R : Type 0) → is_some o ≡ true → R → MatchOption o N (λ x. R)
match_some None N R is r = absurd (true≢false (sym is))
match_some (Some x) N R is r = r

-- it is an operator's that is present in the hall
pub at_present : (b : Connection) (P : OperatorRecord → Type 0) → is_some (present_in (Some b)) ≡ true → IfPresent b P → (c : OperatorRecord) × (b ≡ Operator c true) × P c
at_present (Operator c true) P is p = (c, refl, p)
at_present (Operator c false) P is p = absurd (true≢false (sym is))
at_present (Follower f who here) P is p = absurd (true≢false (sym is))

pub present_there : (s : ServiceRecord) (number : ℕ) (b : Connection) → connection_at s number ≡ Some b → is_some (present_at s number) ≡ true → is_some (present_in (Some b)) ≡ true
present_there s number b there present = sym (ap (λ (o : Option Connection). is_some (present_in o)) there) ∙ present

-- ---- Which kind it is.

pub for_follower : (o : Option Connection) (N R : Type 0) (O : OperatorRecord → Type 0) → is_some (follower_in o) ≡ true → R → ForEach o N O (λ f. R)
for_follower None N R O is r = absurd (true≢false (sym is))
for_follower (Some (Operator c true)) N R O is r = absurd (true≢false (sym is))
for_follower (Some (Operator c false)) N R O is r = absurd (true≢false (sym is))
for_follower (Some (Follower f who here)) N R O is r = r

pub for_operator : (o : Option Connection) (N R : Type 0) (F : ConnectionRecord → Type 0) → is_some (present_in o) ≡ true → R → ForEach o N (λ c. R) F
for_operator None N R F is r = absurd (true≢false (sym is))
for_operator (Some (Operator c true)) N R F is r = r
for_operator (Some (Operator c false)) N R F is r = absurd (true≢false (sym is))
for_operator (Some (Follower f who here)) N R F is r = absurd (true≢false (sym is))

pub for_nobody : (o : Option Connection) (N : Type 0) (O : OperatorRecord → Type 0) (F : ConnectionRecord → Type 0) → is_some (follower_in o) ≡ false → is_some (present_in o) ≡ false → N → ForEach o N O F
for_nobody None N O F follows present n = n
for_nobody (Some (Operator c true)) N O F follows present n = absurd (true≢false present)
for_nobody (Some (Operator c false)) N O F follows present n = n
for_nobody (Some (Follower f who here)) N O F follows present n = absurd (true≢false follows)

-- ---- What is received.

-- bytes were fed to it, and it comes to the hall with this key
pub record IsFed (before : Connection) (bytes : List ℕ) (key : Option (List ℕ)) (after : Connection) : Type 0 where
  pub does : DoesTo before (came bytes) after
  pub present : does.is_present ≡ true
  pub names : key ≡ arrival does.connection does.then

pub fed_by : (before after : Connection) (bytes : List ℕ) (key : Option (List ℕ)) → is_some (present_in (Some before)) ≡ true → IfPresent before (λ c. FeedsTo c bytes key after) → IsFed before bytes key after
fed_by before after bytes key is feeds =
    let p = at_present before (λ c. FeedsTo c bytes key after) is feeds in
    record { does = record { connection = p.0; then = p.2.0; is_present = true; was = p.1; done = p.2.1; is = p.2.2 }; present = refl; names = p.2.3 }

-- ---- What is answered.

pub same_moment : (m n : Moment) → m.before ≡ n.before → m.handed ≡ n.handed → m.after ≡ n.after → m ≡ n
same_moment m n b h a =
    ap (λ (k : HallRecord). record { before = k; handed = m.handed; after = m.after }) b
    ∙ ap (λ (o : Option Handed). record { before = n.before; handed = o; after = m.after }) h
    ∙ ap (λ (l : HallRecord). record { before = n.before; handed = n.handed; after = l }) a

-- what was noted is what was done, by the hall as it stood, which made one step or none
pub record IsNoted (i : ℕ) (before : Connection) (n : Moment) (after : Connection) (x : Deed) : Type 0 where
  pub does : DoesTo before x after
  pub present : does.is_present ≡ true
  pub hall : LeadsHall n.before x n.after
  pub right : IsOneRightStep n.before does.connection.who does.connection.boards n.handed n.after does.then.boards
  pub quiet : IsNoIntake x
  pub hands : (h : Handed) → handed_of x ≡ Some h → n.handed ≡ Some h
  pub makes : (events rest : List HallEvent) → OneOrNoneOf i events rest → MadeBy (happens i x) events rest

pub answering_does : (i : ℕ) (answered : Result Bool AllocError) (r : NewDeed) (m : Moments) (before after : Connection) (n : Moment) → moment_of m ≡ n → is_some (present_in (Some before)) ≡ true
    → IfOk answered (λ some. IfPresent before (λ c. AnswersTo c some n.before n.handed n.after after)) → OnErr answered (IfPresent before (λ c. FailsTo c n.before n.handed n.after after))
    → IfOk answered (λ some. r ≡ Answered some m) → OnErr answered (r ≡ Failed m)
    → IsNoted i before n after (deed_of r)
answering_does i (Ok some) r m before after n is present ok err noted not =
    let p = at_present before (λ c. AnswersTo c some n.before n.handed n.after after) present ok in
    subst (IsNoted i before n after) (sym (ap deed_of noted ∙ ap (was_answered some) is)) (record {
      does = record { connection = p.0; then = p.2.0; is_present = true; was = p.1; done = p.2.1; is = p.2.2 };
      present = refl;
      hall = (refl, refl);
      right = answers_right some p.0 n.before n.handed n.after p.2.0 p.2.1;
      quiet = tt;
      hands = λ h is. is;
      makes = λ events rest one. one;
    })
answering_does i (Err e) r m before after n is present ok err noted not =
    let p = at_present before (λ c. FailsTo c n.before n.handed n.after after) present err in
    subst (IsNoted i before n after) (sym (ap deed_of not ∙ ap failed is)) (record {
      does = record { connection = p.0; then = p.2.0; is_present = true; was = p.1; done = p.2.1; is = p.2.2 };
      present = refl;
      hall = (refl, refl);
      right = fails_right p.0 n.before n.handed n.after p.2.0 p.2.1;
      quiet = tt;
      hands = λ h is. absurd (none-some h is);
      makes = λ events rest one. one;
    })
