-- A text makes one step at most.
use Rattle.std.proofs.Common.{◌≡◌, ◌⊎◌, inl, inr, ℕ, Bool, true, false, List, Option, Result, Ok, Err, ap, ◌∙◌}
use Rattle.relay_core.specs.declared.reply.Reply.{Reply}
use Rattle.relay_core.specs.declared.step.Step.{Step}
use Rattle.relay_messages.specs.declared.answer.Answer.{Answer}
use Rattle.relay_messages.specs.declared.fault.MessageFault.{MessageFault}
use Rattle.relay_messages.specs.Decoding.{decoded}
use Rattle.relay_hall.specs.declared.handed.Handed.{Handed}
use Rattle.relay_hall.specs.declared.owner.Owner.{Owner}
use Rattle.relay_hall.specs.Record.{FloorRecord, HallRecord}
use Rattle.relay_hall.specs.Runs.{IsOneStep}
use Rattle.relay_hall.specs.Talk.{IsAnsweredBy, IsRepliedBy, IsUnansweredBy, IsUnmade, IsUnread, SaidAnswered, StepReplied, may_make}

module _ (k l : HallRecord) (rest : l ≡ record k { floor = l.floor }) (speaker : Owner) (opened : List (List ℕ)) (handed : Option Handed) (now : List (List ℕ)) where
  unmade : IsUnmade k.floor opened handed l.floor now → IsOneStep k speaker handed l
  unmade (none, is, now-is) = inr (rest ∙ ap (λ (f : FloorRecord). record k { floor = f }) is, none)

  stepped : (may : Bool) (step : Step) (reply : Reply) → StepReplied may k.floor speaker opened step reply handed l.floor now → IsOneStep k speaker handed l
  stepped true step reply (makes, now-is) = inl (step, reply, (makes, rest))
  stepped false step reply (reply-is, u) = unmade u

  pub replied_once : (step : Step) (reply : Reply) → IsRepliedBy k.floor speaker opened step reply handed l.floor now → IsOneStep k speaker handed l
  replied_once step reply r = stepped (may_make k.floor speaker opened step) step reply r

  said : (d : Result Step MessageFault) (answer : Answer) → SaidAnswered k.floor speaker opened d answer handed l.floor now → IsOneStep k speaker handed l
  said (Ok step) answer (reply, answer-is, r) = replied_once step reply r
  said (Err fault) answer (answer-is, u) = unmade u

  module _ (text : List ℕ) where
    by : (answer : Answer) → SaidAnswered k.floor speaker opened (decoded text) answer handed l.floor now ⊎ IsUnread k.floor opened text answer handed l.floor now → IsOneStep k speaker handed l
    by answer (inl a) = said (decoded text) answer a
    by answer (inr (long, answer-is, u)) = unmade u

    pub answered_once : (bytes : List ℕ) → IsAnsweredBy k.floor speaker opened text bytes handed l.floor now → IsOneStep k speaker handed l
    answered_once bytes (answer, bytes-are, a) = by answer a

    pub unanswered_once : IsUnansweredBy k.floor speaker opened text handed l.floor now → IsOneStep k speaker handed l
    unanswered_once (inl (step, reply, means, may, makes, now-is)) = inl (step, reply, (makes, rest))
    unanswered_once (inr u) = unmade u
