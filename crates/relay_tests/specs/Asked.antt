-- The answer of a relay that stands at a history to a connection, and what is made then. No keeper is mentioned here: the answer
-- is computed from the history and the boards that the connection has opened.
use Rattle.std.specs.Prelude.{◌≡◌, ◌≤◌, ◌⊎◌, ℕ, List, [], ◌∷◌, length, Bool, true, false, cond, is_some, Result, Ok, Err}
use Rattle.c960_game.specs.declared.ending.Ending.TheVariants.{Abandoned}
use Rattle.c960_game.specs.declared.refusal.Refusal.{Refusal}
use Rattle.c960_game.specs.declared.refusal.Refusal.TheVariants as refusals
use Rattle.c960_game.specs.Limits.{LimitNumbers}
use Rattle.relay_core.specs.declared.step.Step.{Step}
use Rattle.relay_core.specs.declared.step.Step.TheVariants.{Open, Submit, End, Follow, Take, Leave}
use Rattle.relay_core.specs.declared.reply.Reply.{Reply}
use Rattle.relay_core.specs.declared.reply.Reply.TheVariants.{Refused}
use Rattle.relay_core.specs.History.{History, start_of}
use Rattle.relay_core.specs.Replies.{WantsMemory, reply_to}
use Rattle.relay_core.specs.Stands.{Stands}
use Rattle.relay_core.specs.State.{RelayRecord}
use Rattle.relay_messages.specs.Answers.{answer_text}
use Rattle.relay_messages.specs.declared.answer.Answer.{Answer}
use Rattle.relay_messages.specs.declared.answer.Answer.TheVariants as answers
use Rattle.relay_messages.specs.declared.fault.MessageFault.{MessageFault}
use Rattle.relay_messages.specs.declared.fault.MessageFault.TheVariants as faults
use Rattle.relay_messages.specs.declared.reading.TheConstants.{MOST_BYTES}
use Rattle.relay_messages.specs.Decoding.{decoded}
use Rattle.relay_pushing.specs.Connections.{is_among, opened_after}

-- ---- The answer that is required, if there is memory.

abbrev pub are_none : List (List ℕ) → Bool
are_none [] = true
are_none (board ∷ boards) = false

-- whether a connection that has opened these boards may make the step
abbrev pub may_make : List (List ℕ) → Step → Bool
may_make boards (Open board start) = true
may_make boards (Submit board m) = is_among board boards
may_make boards (End board ending) = is_among board boards
may_make boards (Follow who board from) = are_none boards
may_make boards (Take who) = false
may_make boards (Leave who) = false

-- why it may not play on a board, or end it: another connection opened the board, or none did
abbrev pub not_its_own : History → List ℕ → Refusal
not_its_own h board = cond (is_some (start_of h board)) refusals.NotYourBoard refusals.NoSuchBoard

-- why it may not make the step, if it may not
abbrev pub why_not : History → Step → Refusal
why_not h (Submit board m) = not_its_own h board
why_not h (End board ending) = not_its_own h board
why_not h _ = refusals.WrongMode

-- the reply to the step
abbrev pub reply_asked : LimitNumbers → History → List (List ℕ) → Step → Reply
reply_asked limits h boards step = cond (may_make boards step) (reply_to limits h step) (Refused (why_not h step))

-- the answer to a text that says this
abbrev pub answer_asked : LimitNumbers → History → List (List ℕ) → Result Step MessageFault → Answer
answer_asked limits h boards (Ok step) = answers.Reply (reply_asked limits h boards step)
answer_asked limits h boards (Err fault) = answers.Fault fault

-- the history then: it has the further step if the connection may make it
abbrev pub history_asked : LimitNumbers → History → List (List ℕ) → Result Step MessageFault → History
history_asked limits h boards (Ok step) = cond (may_make boards step) ((step, reply_to limits h step) ∷ h) h
history_asked limits h boards (Err fault) = h

-- the boards that the connection has opened then
abbrev pub boards_asked : LimitNumbers → History → List (List ℕ) → Result Step MessageFault → List (List ℕ)
boards_asked limits h boards (Ok step) = opened_after boards step (reply_asked limits h boards step)
boards_asked limits h boards (Err fault) = boards

-- ---- How a text is answered, even if there is no memory.

-- the relay stands at this history now, and the connection has opened these boards
pub record IsAt (limits : LimitNumbers) (h : History) (boards : List (List ℕ)) (later : RelayRecord) (now : List (List ℕ)) : Type 0 where
  pub stands : Stands limits later h
  pub boards_are : now ≡ boards

-- the text got the required answer, and that was made
pub record IsAsked (limits : LimitNumbers) (h : History) (boards : List (List ℕ)) (text bytes : List ℕ) (later : RelayRecord) (now : List (List ℕ)) : Type 0 where
  pub text_is : bytes ≡ answer_text (answer_asked limits h boards (decoded text))
  pub made : IsAt limits (history_asked limits h boards (decoded text)) (boards_asked limits h boards (decoded text)) later now

-- there was no memory to read the text, which is not too long, and nothing was made
pub record IsUnread (limits : LimitNumbers) (h : History) (boards : List (List ℕ)) (text bytes : List ℕ) (later : RelayRecord) (now : List (List ℕ)) : Type 0 where
  pub short : length text ≤ MOST_BYTES
  pub text_is : bytes ≡ answer_text (answers.Fault faults.OutOfMemory)
  pub made : IsAt limits h boards later now

-- there was no memory for the step, which takes some and which nothing else refuses
pub record IsUngrown (limits : LimitNumbers) (h : History) (boards : List (List ℕ)) (text bytes : List ℕ) (later : RelayRecord) (now : List (List ℕ)) : Type 0 where
  pub step : Step
  pub said : decoded text ≡ Ok step
  pub may : may_make boards step ≡ true
  pub wants : WantsMemory limits h step (Refused refusals.OutOfMemory)
  pub text_is : bytes ≡ answer_text (answers.Reply (Refused refusals.OutOfMemory))
  pub made : IsAt limits ((step, Refused refusals.OutOfMemory) ∷ h) boards later now

abbrev pub IsAnswered : LimitNumbers → History → List (List ℕ) → List ℕ → List ℕ → RelayRecord → List (List ℕ) → Type 0
IsAnswered limits h boards text bytes later now =
    IsAsked limits h boards text bytes later now
    ⊎ (IsUnread limits h boards text bytes later now ⊎ IsUngrown limits h boards text bytes later now)

-- the step that the text says was made, with a reply that the history allows
pub record IsMade (limits : LimitNumbers) (h : History) (boards : List (List ℕ)) (text : List ℕ) (later : RelayRecord) (now : List (List ℕ)) : Type 0 where
  pub step : Step
  pub reply : Reply
  pub said : decoded text ≡ Ok step
  pub may : may_make boards step ≡ true
  pub made : IsAt limits ((step, reply) ∷ h) (opened_after boards step reply) later now

-- there was no memory to answer: the step was made, or none was
abbrev pub IsUnanswered : LimitNumbers → History → List (List ℕ) → List ℕ → RelayRecord → List (List ℕ) → Type 0
IsUnanswered limits h boards text later now = IsMade limits h boards text later now ⊎ IsAt limits h boards later now

-- ---- The end of a connection.

-- the history after these boards were ended as abandoned, in this order, each with the reply that is required there
abbrev pub abandoned : LimitNumbers → History → List (List ℕ) → History
abandoned limits h [] = h
abandoned limits h (board ∷ boards) = abandoned limits ((End board Abandoned, reply_to limits h (End board Abandoned)) ∷ h) boards
