-- What was handed out was told of.
use Rattle.std.proofs.Common.{◌≡◌, ℕ, ◌++◌, List, true, None, Some, Result, Ok, Err, inl, inr, sym, ap, ◌∙◌, subst, append-nil}
use Rattle.std.proofs.lemmas.Option.{none-some}
use Rattle.relay_core.specs.declared.reply.Reply.{Reply}
use Rattle.relay_core.specs.declared.step.Step.{Step}
use Rattle.relay_frames.specs.Events.{Told, fragment, text, binary, ping, pong, closed, broken}
use Rattle.relay_frames.specs.Frames.{text_frame}
use Rattle.relay_messages.specs.Answers.{answer_text}
use Rattle.relay_messages.specs.declared.answer.Answer.{Answer}
use Rattle.relay_messages.specs.declared.answer.Answer.TheVariants as answers
use Rattle.relay_messages.specs.declared.fault.MessageFault.{MessageFault}
use Rattle.relay_messages.specs.Decoding.{decoded}
use Rattle.relay_hall.specs.declared.handed.Handed.{Handed}
use Rattle.relay_hall.specs.declared.owner.Owner.{Owner}
use Rattle.relay_hall.specs.Record.{FloorRecord, HallRecord}
use Rattle.relay_hall.specs.Talk.{IsAnsweredBy, SaidAnswered, may_make}
use Rattle.relay_hall.specs.Telling.{Tells}
use Rattle.relay_hall.proofs.lemmas.Telling.{replied_tells}
use Rattle.relay_service.specs.Calling.Answering.{AnswersNext, EventMet, IsTold, OperatorRecord, left_after}
use Rattle.relay_service.specs.declared.calling.stage.Stage.TheVariants.{HandsOver}

-- ---- The text tells of it, as the reply does.

nothing : {A : Type 0} (h : Handed) → Some h ≡ None → A
nothing h none = absurd (none-some h (sym none))

module _ (f : FloorRecord) (h : Handed) where
  abbrev AnswerTells : Answer → Type 0
  AnswerTells answer = (reply : Reply) × Tells h.follower reply × (answer ≡ answers.Reply reply)

  module _ (who : Owner) (boards : List (List ℕ)) (l : FloorRecord) (now : List (List ℕ)) where
    said : (d : Result Step MessageFault) (answer : Answer) → SaidAnswered f who boards d answer (Some h) l now → AnswerTells answer
    said (Ok step) answer (reply, is, replies) = (reply, replied_tells (may_make f who boards step) f l who boards now step reply h replies, is)
    said (Err fault) answer (is, (none, same, opened)) = nothing h none

    text_tells : (s bytes : List ℕ) → IsAnsweredBy f who boards s bytes (Some h) l now → (due : List ℕ) → IsTold due h (due ++ text_frame bytes)
    text_tells s bytes (answer, says, inl a) due = by (said (decoded s) answer a)
      where
        by : AnswerTells answer → IsTold due h (due ++ text_frame bytes)
        by (reply, tells, is) = (reply, tells, ap (λ (ys : List ℕ). due ++ text_frame ys) (says ∙ ap answer_text is))
    text_tells s bytes (answer, says, inr (short, fault, (none, same, opened))) due = nothing h none

-- ---- And the frames of the event.

module _ (k : HallRecord) (h : Handed) (who : Owner) (boards : List (List ℕ)) (left : ℕ) (l : HallRecord) (now : List (List ℕ)) where
  event_tells : (t : Told) (frames : List ℕ) → EventMet k who boards left t frames (Some h) l now → (due : List ℕ) → IsTold due h (due ++ frames)
  event_tells (text s) frames (answer, (bytes, answered, rest, is), frames-are) due =
      subst (λ (ys : List ℕ). IsTold due h (due ++ ys)) (sym (frames-are ∙ append-nil answer ∙ is)) (text_tells k.floor h who boards l.floor now s bytes answered due)
  event_tells fragment frames (answer, (is, (none, same, opened)), frames-are) due = nothing h none
  event_tells (binary bytes) frames (answer, (is, (none, same, opened)), frames-are) due = nothing h none
  event_tells (ping bytes) frames (answer, (is, (none, same, opened)), frames-are) due = nothing h none
  event_tells (pong bytes) frames (answer, (is, (none, same, opened)), frames-are) due = nothing h none
  event_tells (closed number) frames (answer, (is, (none, same, opened)), frames-are) due = nothing h none
  event_tells (broken breach) frames (answer, (is, (none, same, opened)), frames-are) due = nothing h none

pub answered_tells : (c : OperatorRecord) (k : HallRecord) (h : Handed) (l : HallRecord) (d : OperatorRecord) → AnswersNext true c k (Some h) l d → IsTold c.due h d.due × (d.stage ≡ HandsOver)
answered_tells c k h l d (t, asking, says, (frames, met, is)) = (
  subst (λ (ys : List ℕ). IsTold c.due h ys) (sym (ap (λ (e : OperatorRecord). e.due) is)) (event_tells k h c.who c.boards (left_after c.left t) l d.boards t frames met c.due),
  ap (λ (e : OperatorRecord). e.stage) is,
)
