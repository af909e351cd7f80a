-- What a connection does to a hall.
use Rattle.std.proofs.Common.{◌≡◌, ℕ, List, Bool, true, false, Option, inl, inr, refl, subst}
use Rattle.relay_frames.specs.Events.{Told, fragment, text, binary, ping, pong, closed, broken}
use Rattle.relay_hall.specs.declared.handed.Handed.{Handed}
use Rattle.relay_hall.specs.declared.owner.Owner.{Owner}
use Rattle.relay_hall.specs.Record.{HallRecord}
use Rattle.relay_hall.specs.Runs.{IsOneStep}
use Rattle.relay_hall.proofs.lemmas.OneStep.{answered_once, unanswered_once}
use Rattle.relay_service.specs.Calling.Answering.{AnswersNext, EventAnswered, EventUnanswered, Fails, OperatorRecord, Stays, asks}

module _ (k : HallRecord) (who : Owner) (boards : List (List ℕ)) (handed : Option Handed) (l : HallRecord) (now : List (List ℕ)) where
  stays_once : Stays k boards handed l now → IsOneStep k who handed l
  stays_once (none, same, opened) = inr (same, none)

  event_once : (t : Told) (frames : List ℕ) → EventAnswered k who boards t frames handed l now → IsOneStep k who handed l
  event_once (text s) frames (bytes, answered, rest, is) = answered_once k l rest who boards handed now s bytes answered
  event_once fragment frames (is, stays) = stays_once stays
  event_once (binary bytes) frames (is, stays) = stays_once stays
  event_once (ping bytes) frames (is, stays) = stays_once stays
  event_once (pong bytes) frames (is, stays) = stays_once stays
  event_once (closed number) frames (is, stays) = stays_once stays
  event_once (broken breach) frames (is, stays) = stays_once stays

  lost_once : (t : Told) → EventUnanswered k who boards t handed l now → IsOneStep k who handed l
  lost_once (text s) (inl un, rest) = unanswered_once k l rest who boards handed now s un
  lost_once (text s) (inr (bytes, answered), rest) = answered_once k l rest who boards handed now s bytes answered
  lost_once fragment stays = stays_once stays
  lost_once (binary bytes) stays = stays_once stays
  lost_once (ping bytes) stays = stays_once stays
  lost_once (pong bytes) stays = stays_once stays
  lost_once (closed number) stays = stays_once stays
  lost_once (broken breach) stays = stays_once stays

-- ---- Said by one who is known while it asks.

module _ (c : OperatorRecord) (k : HallRecord) (handed : Option Handed) (l : HallRecord) (d : OperatorRecord) (one : Owner) (is : asks c.stage ≡ true → c.who ≡ one) where
  pub fails_as : Fails c k handed l d → IsOneStep k one handed l
  fails_as (inl (none, same, stays)) = inr (same, none)
  fails_as (inr (t, asking, says, (un, then))) = subst (λ (who : Owner). IsOneStep k who handed l) (is asking) (lost_once k c.who c.boards handed l d.boards t un)

pub answers_as : (some : Bool) (c : OperatorRecord) (k : HallRecord) (handed : Option Handed) (l : HallRecord) (d : OperatorRecord) (one : Owner) → (asks c.stage ≡ true → c.who ≡ one)
    → AnswersNext some c k handed l d → IsOneStep k one handed l
answers_as true c k handed l d one is (t, asking, says, (frames, (answer, answered, met), then)) =
    subst (λ (who : Owner). IsOneStep k who handed l) (is asking) (event_once k c.who c.boards handed l d.boards t answer answered)
answers_as false c k handed l d one is (none, same, stays, more) = inr (same, none)

-- ---- Said by itself.

pub answers_once : (some : Bool) (c : OperatorRecord) (k : HallRecord) (handed : Option Handed) (l : HallRecord) (d : OperatorRecord) → AnswersNext some c k handed l d → IsOneStep k c.who handed l
answers_once some c k handed l d answers = answers_as some c k handed l d c.who (λ asking. refl) answers

pub fails_once : (c : OperatorRecord) (k : HallRecord) (handed : Option Handed) (l : HallRecord) (d : OperatorRecord) → Fails c k handed l d → IsOneStep k c.who handed l
fails_once c k handed l d fails = fails_as c k handed l d c.who (λ asking. refl) fails
