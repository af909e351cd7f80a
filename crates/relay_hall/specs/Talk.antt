-- How a hall answers a text of a connection, exactly: the answer, what is handed out, and the boards afterwards.
use Rattle.std.specs.Prelude.{◌≡◌, ◌≤◌, ◌⊎◌, ℕ, List, [], ◌∷◌, length, Bool, true, false, cond, not, ◌&&◌, ◌||◌, Option, None, Result, Ok, Err}
use Rattle.c960_game.specs.declared.refusal.Refusal.{Refusal}
use Rattle.c960_game.specs.declared.refusal.Refusal.TheVariants as refusals
use Rattle.relay_core.specs.declared.step.Step.{Step}
use Rattle.relay_core.specs.declared.step.Step.TheVariants.{Open, Submit, End, Follow, Take, Leave}
use Rattle.relay_core.specs.declared.reply.Reply.{Reply}
use Rattle.relay_core.specs.declared.reply.Reply.TheVariants.{Refused}
use Rattle.relay_messages.specs.Answers.{answer_text}
use Rattle.relay_messages.specs.declared.answer.Answer.{Answer}
use Rattle.relay_messages.specs.declared.answer.Answer.TheVariants as answers
use Rattle.relay_messages.specs.declared.fault.MessageFault.{MessageFault}
use Rattle.relay_messages.specs.declared.fault.MessageFault.TheVariants as faults
use Rattle.relay_messages.specs.declared.reading.TheConstants.{MOST_BYTES}
use Rattle.relay_messages.specs.Decoding.{decoded}
use Rattle.relay_pushing.specs.Connections.{Knows, Owns, OwnsAny, is_among, opened_after}
use Rattle.relay_hall.specs.declared.handed.Handed.{Handed}
use Rattle.relay_hall.specs.declared.owner.Owner.{Owner}
use Rattle.relay_hall.specs.Record.{FloorRecord}
use Rattle.relay_hall.specs.Steps.{Makes, tells_of}

abbrev pub are_none : List (List ℕ) → Bool
are_none [] = true
are_none (board ∷ boards) = false

-- whether a connection that has opened these boards may make the step
abbrev pub may_make : FloorRecord → Owner → List (List ℕ) → Step → Bool
may_make f speaker opened (Open board start) = true
may_make f speaker opened (Submit board m) = is_among board opened || tells_of f speaker (Owns board)
may_make f speaker opened (End board ending) = is_among board opened || tells_of f speaker (Owns board)
may_make f speaker opened (Follow who board from) = are_none opened && not (tells_of f speaker OwnsAny)
may_make f speaker opened (Take who) = false
may_make f speaker opened (Leave who) = false

abbrev pub not_its_own : FloorRecord → Owner → List ℕ → Refusal
not_its_own f speaker board = cond (tells_of f speaker (Knows board)) refusals.NotYourBoard refusals.NoSuchBoard

-- why it may not, if it may not
abbrev pub why_not : FloorRecord → Owner → Step → Refusal
why_not f speaker (Submit board m) = not_its_own f speaker board
why_not f speaker (End board ending) = not_its_own f speaker board
why_not f speaker _ = refusals.WrongMode

-- nothing is handed out, and the boards and those that the connection has opened are as they were
abbrev pub IsUnmade : FloorRecord → List (List ℕ) → Option Handed → FloorRecord → List (List ℕ) → Type 0
IsUnmade f opened handed l now = (handed ≡ None) × (l ≡ f) × (now ≡ opened)

-- the reply to a step, depending on whether the connection may make it
abbrev pub StepReplied : Bool → FloorRecord → Owner → List (List ℕ) → Step → Reply → Option Handed → FloorRecord → List (List ℕ) → Type 0
StepReplied true f speaker opened step reply handed l now = Makes f speaker step reply handed l × (now ≡ opened_after opened step reply)
StepReplied false f speaker opened step reply handed l now = (reply ≡ Refused (why_not f speaker step)) × IsUnmade f opened handed l now

-- a step of a connection that has opened these boards gets this reply
abbrev pub IsRepliedBy : FloorRecord → Owner → List (List ℕ) → Step → Reply → Option Handed → FloorRecord → List (List ℕ) → Type 0
IsRepliedBy f speaker opened step reply handed l now = StepReplied (may_make f speaker opened step) f speaker opened step reply handed l now

-- the answer to a text that says this
abbrev pub SaidAnswered : FloorRecord → Owner → List (List ℕ) → Result Step MessageFault → Answer → Option Handed → FloorRecord → List (List ℕ) → Type 0
SaidAnswered f speaker opened (Ok step) answer handed l now =
    (reply : Reply) × (answer ≡ answers.Reply reply) × IsRepliedBy f speaker opened step reply handed l now
SaidAnswered f speaker opened (Err fault) answer handed l now = (answer ≡ answers.Fault fault) × IsUnmade f opened handed l now

-- there was no memory to read the text, which is not too long, and nothing was made
abbrev pub IsUnread : FloorRecord → List (List ℕ) → List ℕ → Answer → Option Handed → FloorRecord → List (List ℕ) → Type 0
IsUnread f opened text answer handed l now =
    (length text ≤ MOST_BYTES) × (answer ≡ answers.Fault faults.OutOfMemory) × IsUnmade f opened handed l now

-- the text of a connection that has opened these boards gets the answer of these bytes
abbrev pub IsAnsweredBy : FloorRecord → Owner → List (List ℕ) → List ℕ → List ℕ → Option Handed → FloorRecord → List (List ℕ) → Type 0
IsAnsweredBy f speaker opened text bytes handed l now =
    (answer : Answer) × (bytes ≡ answer_text answer)
    × (SaidAnswered f speaker opened (decoded text) answer handed l now ⊎ IsUnread f opened text answer handed l now)

-- there was no memory for the answer: the step that the text says was made, or nothing was
abbrev pub IsUnansweredBy : FloorRecord → Owner → List (List ℕ) → List ℕ → Option Handed → FloorRecord → List (List ℕ) → Type 0
IsUnansweredBy f speaker opened text handed l now =
    ((step : Step) × (reply : Reply) × (decoded text ≡ Ok step) × (may_make f speaker opened step ≡ true) × Makes f speaker step reply handed l
    × (now ≡ opened_after opened step reply))
    ⊎ IsUnmade f opened handed l now
