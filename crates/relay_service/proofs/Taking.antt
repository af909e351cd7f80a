-- What is handed out to a connection may be followed by it, since it was told so, and its follower has taken nothing.
use Rattle.std.proofs.Common.{◌≡◌, ◌⊎◌, ℕ, List, [], Bool, true, false, true≢false, Option, Some, None, Result, Ok, Err, IfOk, OnErr, inl, inr, refl, sym, ap, ◌∙◌, subst}
use Rattle.std.specs.Prelude.{IfSome, is_ok}
use Rattle.std.specs.declared.alloc.AllocError.{AllocError}
use Rattle.std.proofs.lemmas.Option.{none-some}
use Rattle.relay_hall.specs.declared.handed.Handed.{Handed}
use Rattle.relay_hall.specs.Record.{HallRecord}
use Rattle.relay_hall.specs.Runs.{IsOneStep}
use Rattle.relay_service.specs.Calling.Answering.{AnswersNext, IsTold, OperatorRecord}
use Rattle.relay_service.specs.Following.Served.{IsOpening}
use Rattle.relay_service.proofs.FollowingFacts.Boards.{untaken}
use Rattle.relay_service.proofs.FollowingFacts.Handing.{handed_in, told_of}
use Rattle.relay_service.specs.declared.connection.Connection.{Connection}
use Rattle.relay_service.specs.declared.connection.Connection.TheVariants.{Operator, Follower}
use Rattle.relay_service.specs.Calls.{AnswersNextTo, AnswersTo, FailsTo, IfOperator, IfPresent, taken_up}
use Rattle.relay_service.specs.Record.{present_in}
use Rattle.relay_service.proofs.Rights.{answers_right, fails_right, one_step}

-- it is an operator's that is present in the hall, or not
present_or : (b : Connection) → (present_in (Some b) ≡ None) ⊎ ((c : OperatorRecord) × (b ≡ Operator c true))
present_or (Operator c true) = inr (c, refl)
present_or (Operator c false) = inl refl
present_or (Follower f who here) = inl refl

-- what was told of what was handed out
abbrev TellsOf : Type 0
TellsOf = (c : OperatorRecord) (k : HallRecord) (h : Handed) (l : HallRecord) (d : OperatorRecord) → AnswersNext true c k (Some h) l d → IsTold c.due h d.due

abbrev IsTellOf : Handed → Connection → Type 0
IsTellOf h mid = IfOperator mid (λ c here. IsOpening c.due h.follower.part)

heard : TellsOf → (c : OperatorRecord) (some : Bool) (k : HallRecord) (h : Handed) (l : HallRecord) (mid : Connection) → AnswersNextTo c some k (Some h) l mid → IsTellOf h mid
heard law c true k h l mid (d, answers, is) =
    let t = law c k h l d answers in
    subst (IsTellOf h) (sym is) (subst (λ (due : List ℕ). IsOpening due h.follower.part) (sym t.2) (told_of h.follower t.0 c.due t.1))
heard law c false k h l mid (d, (none, same, stays, more), is) = absurd (none-some h (sym none))

pub tells_opening : TellsOf → (before mid : Connection) (answered : Result Bool AllocError) (handed : Option Handed) (k l : HallRecord)
    → IfOk answered (λ some. IfPresent before (λ c. AnswersNextTo c some k handed l mid)) → (present_in (Some before) ≡ None → handed ≡ None)
    → is_ok answered ≡ true → IfSome handed (λ h. IsTellOf h mid)
tells_opening law before mid (Err e) handed k l ok none is = absurd (true≢false (sym is))
tells_opening law before mid (Ok some) None k l ok none is = tt
tells_opening law before mid (Ok some) (Some h) k l ok none is = by (present_or before)
  where
    by : (present_in (Some before) ≡ None) ⊎ ((c : OperatorRecord) × (before ≡ Operator c true)) → IsTellOf h mid
    by (inl absent) = absurd (none-some h (sym (none absent)))
    by (inr (c, there)) = heard law c some k h l mid (subst (λ (b : Connection). IfPresent b (λ d. AnswersNextTo d some k (Some h) l mid)) there ok)

abbrev IsUntaken : Handed → Type 0
IsUntaken h = h.follower.part.taken ≡ []

stepped : (c : OperatorRecord) (k : HallRecord) (h : Handed) (l : HallRecord) → IsOneStep k c.who (Some h) l → IsUntaken h
stepped c k h l once = untaken l.floor h (handed_in k l c.who h once)

pub nothing_taken : (before mid : Connection) (answered : Result Bool AllocError) (handed : Option Handed) (k l : HallRecord)
    → IfOk answered (λ some. IfPresent before (λ c. AnswersNextTo c some k handed l mid)) → OnErr answered (IfPresent before (λ c. FailsTo c k handed l mid))
    → (present_in (Some before) ≡ None → handed ≡ None) → IfSome handed (λ h. IsUntaken h)
nothing_taken before mid answered None k l ok err none = tt
nothing_taken before mid answered (Some h) k l ok err none = by (present_or before)
  where
    of : (a : Result Bool AllocError) (c : OperatorRecord) → IfOk a (λ some. AnswersNextTo c some k (Some h) l mid) → OnErr a (FailsTo c k (Some h) l mid) → IsUntaken h
    of (Ok some) c (d, answers, is) fails = stepped c k h l (one_step k c.who c.boards (Some h) l d.boards (answers_right some c k (Some h) l d answers))
    of (Err e) c answers (d, fails, is) = stepped c k h l (one_step k c.who c.boards (Some h) l d.boards (fails_right c k (Some h) l d fails))

    by : (present_in (Some before) ≡ None) ⊎ ((c : OperatorRecord) × (before ≡ Operator c true)) → IsUntaken h
    by (inl absent) = absurd (none-some h (sym (none absent)))
    by (inr (c, there)) =
        of answered c (subst (λ (b : Connection). IfOk answered (λ some. IfPresent b (λ d. AnswersNextTo d some k (Some h) l mid))) there ok)
        (subst (λ (b : Connection). OnErr answered (IfPresent b (λ d. FailsTo d k (Some h) l mid))) there err)

-- ---- What it is then.

module _ (mid after : Connection) (flag : Bool) (handed told : Option Handed) (k l : HallRecord) (same : told ≡ handed)
    (takes : IfOperator mid (λ c here. after ≡ taken_up flag handed c here)) where
  took : (d : OperatorRecord) → mid ≡ Operator d true → after ≡ taken_up flag handed d true
  took d is = subst (λ (m : Connection). IfOperator m (λ c here. after ≡ taken_up flag handed c here)) is takes

  pub answered_as : (before : Connection) (answered : Result Bool AllocError) → flag ≡ is_ok answered → IfOk answered (λ some. IfPresent before (λ c. AnswersNextTo c some k handed l mid))
      → IfOk answered (λ some. IfPresent before (λ c. AnswersTo c some k told l after))
  answered_as before (Err e) flagged ok = tt
  answered_as (Follower f who here) (Ok some) flagged ok = tt
  answered_as (Operator c false) (Ok some) flagged ok = tt
  answered_as (Operator c true) (Ok some) flagged (d, answers, is) =
      subst (λ (o : Option Handed). AnswersTo c some k o l after) (sym same) (d, answers, took d is ∙ ap (λ (b : Bool). taken_up b handed d true) flagged)

  pub failed_as : (before : Connection) (answered : Result Bool AllocError) → flag ≡ is_ok answered → OnErr answered (IfPresent before (λ c. FailsTo c k handed l mid))
      → OnErr answered (IfPresent before (λ c. FailsTo c k told l after))
  failed_as before (Ok some) flagged err = tt
  failed_as (Follower f who here) (Err e) flagged err = tt
  failed_as (Operator c false) (Err e) flagged err = tt
  failed_as (Operator c true) (Err e) flagged (d, fails, is) =
      subst (λ (o : Option Handed). FailsTo c k o l after) (sym same) (d, fails, took d is ∙ ap (λ (b : Bool). taken_up b handed d true) flagged)
