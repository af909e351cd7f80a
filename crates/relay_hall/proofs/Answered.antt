-- What a connection does over the boards of a hall, whose answers are functions.
use Rattle.std.proofs.Common.{◌≡◌, ◌≢◌, ◌⊎◌, inl, inr, ℕ, Bool, true, false, cond, not, ◌&&◌, ◌||◌, List, [], ◌∷◌, Option, None, Some, Result, Ok, Err, refl, sym, ap, ◌∙◌, subst}
use Rattle.c960_game.specs.declared.refusal.Refusal.{Refusal}
use Rattle.c960_game.specs.declared.refusal.Refusal.TheVariants as refusals
use Rattle.relay_core.specs.declared.step.Step.{Step}
use Rattle.relay_core.specs.declared.step.Step.TheVariants.{Open, Submit, End, Follow, Take, Leave}
use Rattle.relay_core.specs.declared.reply.Reply.{Reply}
use Rattle.relay_core.specs.declared.reply.Reply.TheVariants.{Refused}
use Rattle.relay_messages.specs.declared.answer.Answer.{Answer}
use Rattle.relay_messages.specs.declared.answer.Answer.TheVariants as answers
use Rattle.relay_messages.specs.declared.fault.MessageFault.{MessageFault}
use Rattle.relay_messages.specs.declared.fault.MessageFault.TheVariants as faults
use Rattle.relay_messages.specs.Decoding.{IsDecoding, decoded}
use Rattle.relay_pushing.specs.Connections as conn
use Rattle.relay_hall.specs.declared.handed.Handed.{Handed}
use Rattle.relay_hall.specs.Record.{FloorState}
use Rattle.relay_hall.specs.Steps.{Makes, StateMakes, latest, tells_of}
use Rattle.relay_hall.specs.Talk.{IsAnsweredBy, IsRepliedBy, IsUnansweredBy, IsUnmade, IsUnread, SaidAnswered, StepReplied, are_none, may_make, not_its_own, why_not}

-- what the boards tell, and what is made of a step
abbrev Tells : FloorState → conn.Question → Bool → Type 0
Tells s question answer = answer ≡ tells_of s.floor s.speaker question

abbrev MadeBy : FloorState → Step → Reply → FloorState → Type 0
MadeBy s step reply t = StateMakes s step reply t

-- a text that was read as a step means it
read : (text : List ℕ) (step : Step) → IsDecoding text (Ok step) → decoded text ≡ Ok step
read text step (inl e) = sym e
read text step (inr m) = let never = m.1 in cc

or_left : (a b : Bool) → a ≡ true → (a || b) ≡ true
or_left a b e = ap (λ t. t || b) e

or_right : (a b : Bool) → b ≡ true → (a || b) ≡ true
or_right true b e = refl
or_right false b e = e

none_not : (boards : List (List ℕ)) → boards ≢ [] → are_none boards ≡ false
none_not [] f = absurd (f refl)
none_not (x ∷ xs) f = refl

and_last : (a b : Bool) → b ≡ true → (a && not b) ≡ false
and_last true b e = ap not e
and_last false b e = refl

module _ (s : FloorState) (boards : List (List ℕ)) where
  -- ---- What the connection may do.

  own : (b : List ℕ) → conn.IsOwn (Tells s) boards b → (conn.is_among b boards || tells_of s.floor s.speaker (conn.Owns b)) ≡ true
  own b (inl e) = or_left (conn.is_among b boards) (tells_of s.floor s.speaker (conn.Owns b)) e
  own b (inr e) = or_right (conn.is_among b boards) (tells_of s.floor s.speaker (conn.Owns b)) (sym e)

  may : (step : Step) → conn.MayMake (Tells s) boards step → may_make s.floor s.speaker boards step ≡ true
  may (Open b n) m = refl
  may (Submit b x) m = own b m
  may (End b x) m = own b m
  may (Follow who b from) m = λ i. are_none (m.0 i) && not (sym m.1 i)
  may (Take who) m = absurd m
  may (Leave who) m = absurd m

  -- ---- What it may not do.

  foreign : (b : List ℕ) (refusal : Refusal) → conn.IsForeign (Tells s) boards b refusal → ((conn.is_among b boards || tells_of s.floor s.speaker (conn.Owns b)) ≡ false) × (refusal ≡ not_its_own s.floor s.speaker b)
  foreign b refusal f = (
    (λ i. f.foreign i || sym f.unowned i),
    f.reason ∙ ap (λ t. cond t refusals.NotYourBoard refusals.NoSuchBoard) f.told,
  )

  bars : (step : Step) (refusal : Refusal) → conn.Bars (Tells s) boards step refusal → (may_make s.floor s.speaker boards step ≡ false) × (refusal ≡ why_not s.floor s.speaker step)
  bars (Open b n) refusal f = absurd f
  bars (Submit b x) refusal f = foreign b refusal f
  bars (End b x) refusal f = foreign b refusal f
  bars (Follow who b from) refusal (inl e, is) = (ap (λ t. t && not (tells_of s.floor s.speaker conn.OwnsAny)) (none_not boards e), is)
  bars (Follow who b from) refusal (inr e, is) = (and_last (are_none boards) (tells_of s.floor s.speaker conn.OwnsAny) (sym e), is)
  bars (Take who) refusal f = (refl, f)
  bars (Leave who) refusal f = (refl, f)

  -- nothing was handed out before
  module _ (empty : s.handed ≡ None) (now : List (List ℕ)) (t : FloorState) where
    pub made : (step : Step) (reply : Reply) → StateMakes s step reply t → Makes s.floor s.speaker step reply t.handed t.floor
    made step reply m = subst (λ (h : Option Handed). Makes s.floor s.speaker step reply h t.floor) (sym (m.latest ∙ by m.handed)) m.makes
      where
        by : (h : Option Handed) → latest h s.handed ≡ h
        by None = empty
        by (Some h) = refl

    pub unmade : conn.IsUnmoved boards s now t → IsUnmade s.floor boards t.handed t.floor now
    unmade u = (ap (λ (x : FloorState). x.handed) u.keeper_is ∙ empty, ap (λ (x : FloorState). x.floor) u.keeper_is, u.boards_are)

    -- the reply to a step
    pub replied : (step : Step) (reply : Reply) → conn.Replied (Tells s) MadeBy boards s step reply now t → IsRepliedBy s.floor s.speaker boards step reply t.handed t.floor now
    replied step reply (inl m) =
        subst (λ (b : Bool). StepReplied b s.floor s.speaker boards step reply t.handed t.floor now) (sym (may step m.may)) (made step reply m.made, m.boards_are)
    replied step reply (inr barred) =
        let why = bars step barred.refusal barred.bars in
        subst (λ (b : Bool). StepReplied b s.floor s.speaker boards step reply t.handed t.floor now) (sym why.0) (barred.reply_is ∙ ap Refused why.1, unmade barred.unmoved)

    module _ (text : List ℕ) where
      said : (d : Result Step MessageFault) → decoded text ≡ d → (answer : Answer) → SaidAnswered s.floor s.speaker boards d answer t.handed t.floor now
          → SaidAnswered s.floor s.speaker boards (decoded text) answer t.handed t.floor now
      said d e answer h = subst (λ (x : Result Step MessageFault). SaidAnswered s.floor s.speaker boards x answer t.handed t.floor now) (sym e) h

      led : (answer : Answer) → conn.Leads (Tells s) MadeBy boards s text answer now t
          → SaidAnswered s.floor s.speaker boards (decoded text) answer t.handed t.floor now ⊎ IsUnread s.floor boards text answer t.handed t.floor now
      led (answers.Fault fault) (inl e, u) = inl (said (Err fault) (sym e) (answers.Fault fault) (refl, unmade u))
      led (answers.Fault fault) (inr m, u) = let want : fault ≡ faults.OutOfMemory = let e = m.1 in cc in inr (m.0, ap answers.Fault want, unmade u)
      led (answers.Reply reply) h = inl (said (Ok h.0) (read text h.0 h.1) (answers.Reply reply) (reply, refl, replied h.0 reply h.2))

-- ---- The calls.

module _ (s : FloorState) (empty : s.handed ≡ None) (boards : List (List ℕ)) (text : List ℕ) (now : List (List ℕ)) (t : FloorState) where
  pub answered : (bytes : List ℕ) → conn.Answered (Tells s) MadeBy boards s text bytes now t → IsAnsweredBy s.floor s.speaker boards text bytes t.handed t.floor now
  answered bytes a = (a.0, a.2, led s boards empty now t text a.0 a.1)

  pub unanswered : conn.Stopped (Tells s) MadeBy boards s text now t → IsUnansweredBy s.floor s.speaker boards text t.handed t.floor now
  unanswered (inl m) = inl (m.0, m.1, read text m.0 m.2, may s boards m.0 m.3.may, made s boards empty now t m.0 m.1 m.3.made, m.3.boards_are)
  unanswered (inr u) = inr (unmade s boards empty now t u)
