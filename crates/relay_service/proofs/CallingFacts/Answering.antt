-- How a text and an event are answered.
use Rattle.std.proofs.Common.{◌≡◌, ℕ, ◌++◌, is_some, Bool, true, false, List, Option, None, Some, inr, refl, sym, ap, ◌∙◌, subst, option_map, length, append_assoc, arith, Result, Ok, Err, OnOk, OnErr}
use Rattle.std.specs.Prelude.{IfOk}
use Rattle.std.proofs.Math.Seq.{take-append_seam}
use Rattle.std.proofs.lemmas.List.{take_all}
use Rattle.relay_frames.specs.declared.event.Event.{Event}
use Rattle.relay_frames.specs.Events.{Told, fragment, text, binary, ping, pong, closed, broken, told}
use Rattle.relay_frames.specs.Frames.{text_frame}
use Rattle.relay_frames.specs.Reading.{Reading, next_step}
use Rattle.relay_hall.specs.declared.handed.Handed.{Handed}
use Rattle.relay_hall.specs.declared.owner.Owner.{Owner}
use Rattle.relay_hall.specs.Record.{HallRecord}
use Rattle.relay_hall.specs.Talk.{IsAnsweredBy}
use Rattle.relay_service.specs.Calling.Answering.{Answers, AnswersInFull, AnswersNext, AnswersNot, EventAnswered, EventUnanswered, Fails, Meets, MeetsNot, OperatorRecord, asks, farewell, with_due}
use Rattle.relay_service.proofs.CallingFacts.Hearing.{hear_none}

-- ---- Results.

module _ {A E : Type 0} where
  pub onto_ok : {P Q : Type 0} → (P → Q) → (r : Result A E) → OnOk r P → OnOk r Q
  onto_ok f (Ok done) p = f p
  onto_ok f (Err fault) p = tt

  pub onto_err : {P Q : Type 0} → (P → Q) → (r : Result A E) → OnErr r P → OnErr r Q
  onto_err f (Ok done) p = tt
  onto_err f (Err fault) p = f p

  pub onto_each : {P Q : A → Type 0} → ((a : A) → P a → Q a) → (r : Result A E) → IfOk r P → IfOk r Q
  onto_each f (Ok a) p = f a p
  onto_each f (Err fault) p = tt

  pub ok_of : {P : Type 0} → (r : Result A E) (a : A) → r ≡ Ok a → OnOk r P → P
  ok_of {P} r a is p = subst (λ (q : Result A E). OnOk q P) is p

  pub each_of : (P : A → Type 0) → (r : Result A E) (a : A) → r ≡ Ok a → IfOk r P → P a
  each_of P r a is p = subst (λ (q : Result A E). IfOk q P) is p

module _ (c : OperatorRecord) (k : HallRecord) (handed : Option Handed) (l : HallRecord) where
  -- ---- A text.

  module _ (s bytes : List ℕ) (boards : List (List ℕ)) (d : OperatorRecord) (rest : l ≡ record k { floor = l.floor }) (answered : IsAnsweredBy k.floor c.who c.boards s bytes handed l.floor boards) where
    pub text_answers : d ≡ with_due (record c { boards = boards }) (text_frame bytes) → Answers c k (text s) handed l d
    text_answers is = subst (λ (e : OperatorRecord). Answers c k (text s) handed l e) (sym is) (text_frame bytes, (bytes, answered, rest, refl), refl)

    pub text_fails : d ≡ record c { boards = boards } → AnswersNot c k (text s) handed l d
    text_fails is = subst (λ (e : OperatorRecord). AnswersNot c k (text s) handed l e) (sym is) ((inr (bytes, answered), rest), refl, take_all (length c.due) c.due (omega arith))

  -- ---- An answer, and a farewell behind it.

  module _ (t : Told) (a d : OperatorRecord) where
    behind_it : (boards : List (List ℕ)) (frames : List ℕ) → EventAnswered k c.who c.boards t frames handed l boards
        → d ≡ with_due (record c { boards = boards; due = c.due ++ frames }) (farewell c.left t (is_some handed)) → AnswersInFull c k t handed l d
    behind_it boards frames answered is =
        let last = farewell c.left t (is_some handed) in
        subst (λ (e : OperatorRecord). AnswersInFull c k t handed l e) (sym is)
        (frames ++ last, (frames, answered, refl), ap (λ (ys : List ℕ). record c { boards = boards; due = ys }) (append_assoc c.due frames last))

    pub said_farewell : (has : Bool) → has ≡ is_some handed → Answers c k t handed l a → d ≡ with_due a (farewell a.left t has) → AnswersInFull c k t handed l d
    said_farewell has handed-is (frames, answered, there) is =
        behind_it a.boards frames answered
        (is ∙ ap (λ (b : Bool). with_due a (farewell a.left t b)) handed-is
        ∙ ap (λ (x : OperatorRecord). with_due x (farewell x.left t (is_some handed))) there)

  unanswered : (who : Owner) (boards : List (List ℕ)) (t : Told) (frames : List ℕ) (now : List (List ℕ)) → EventAnswered k who boards t frames handed l now → EventUnanswered k who boards t handed l now
  unanswered who boards (text s) frames now (bytes, answered, rest, is) = (inr (bytes, answered), rest)
  unanswered who boards fragment frames now a = a.1
  unanswered who boards (binary bytes) frames now a = a.1
  unanswered who boards (ping bytes) frames now a = a.1
  unanswered who boards (pong bytes) frames now a = a.1
  unanswered who boards (closed number) frames now a = a.1
  unanswered who boards (broken breach) frames now a = a.1

  lost : (t : Told) (d : OperatorRecord) (boards : List (List ℕ)) (frames : List ℕ) → EventUnanswered k c.who c.boards t handed l boards
      → d ≡ record c { boards = boards; due = c.due ++ frames } → AnswersNot c k t handed l d
  lost t d boards frames un is = subst (λ (e : OperatorRecord). AnswersNot c k t handed l e) (sym is) (un, refl, take-append_seam c.due frames)

  pub said_no_farewell : (t : Told) (a d : OperatorRecord) → Answers c k t handed l a → d ≡ a → AnswersNot c k t handed l d
  said_no_farewell t a d (frames, answered, there) is = lost t d a.boards frames (unanswered c.who c.boards t frames a.boards answered) (is ∙ there)

  -- ---- The next event.

  module _ (event : Event) (found : Option Event) (then : Reading) (d : OperatorRecord) (at : asks c.stage ≡ true)
      (says : option_map told found ≡ (next_step c.reading).told) (is : found ≡ Some event) (on : then ≡ (next_step c.reading).then) where
    there : (next_step c.reading).told ≡ Some (told event)
    there = sym says ∙ ap (option_map told) is

    pub event_answered : (some : Bool) → (some ≡ true) × Meets (record c { reading = then }) k (told event) handed l d → AnswersNext some c k handed l d
    event_answered some (some-is, meets) =
        subst (λ (b : Bool). AnswersNext b c k handed l d) (sym some-is)
        (told event, at, there, subst (λ (r : Reading). Meets (record c { reading = r }) k (told event) handed l d) on meets)

    pub event_fails : MeetsNot (record c { reading = then }) k (told event) handed l d → Fails c k handed l d
    event_fails meets = inr (told event, at, there, subst (λ (r : Reading). MeetsNot (record c { reading = r }) k (told event) handed l d) on meets)

-- none was found
pub none_answered : (c : OperatorRecord) (k : HallRecord) (found : Option Event) (then : Reading) → option_map told found ≡ (next_step c.reading).told → found ≡ None → then ≡ (next_step c.reading).then
    → AnswersNext false c k None k (record c { reading = then })
none_answered c k found then says is on =
    let none : (next_step c.reading).told ≡ None = sym says ∙ ap (option_map told) is in
    (refl, refl, ap (λ (r : Reading). record c { reading = r }) (on ∙ hear_none c.reading none), λ at. none)
