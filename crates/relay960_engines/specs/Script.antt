-- The answers to the lines of a script, and what a whole run over them writes.
use Rattle.std.specs.Prelude.{ℕ, ◌≡◌, List, [], ◌∷◌, ◌++◌, Bool, true, false, Result, Ok, Err}
use Rattle.std.specs.List.{list_any}
use Rattle.c960_game.specs.declared.refusal.Refusal.TheVariants as refusals
use Rattle.c960_game.specs.Limits.{LimitNumbers}
use Rattle.relay_core.specs.declared.step.Step.{Step}
use Rattle.relay_core.specs.declared.reply.Reply.TheVariants.{Refused}
use Rattle.relay_core.specs.History.{History}
use Rattle.relay_core.specs.Replies.{IsAllowed, reply_to}
use Rattle.relay_messages.specs.declared.answer.Answer.{Answer}
use Rattle.relay_messages.specs.declared.answer.Answer.TheVariants.{Reply, Fault}
use Rattle.relay_messages.specs.declared.fault.MessageFault.{MessageFault}
use Rattle.relay_messages.specs.declared.fault.MessageFault.TheVariants as faults
use Rattle.relay_messages.specs.Answers.{answer_text}
use Rattle.relay_messages.specs.Decoding.{IsDecoding, decoded}
use Rattle.relay960_engines.specs.declared.bounds.Bounds.{Bounds}
use Rattle.relay960_engines.specs.declared.fault.RunFault.{RunFault}
use Rattle.relay960_engines.specs.declared.fault.RunFault.TheVariants.{Read, Write, TooLong, OutOfMemory, BadStart}
use Rattle.relay960_engines.specs.Lines.{lines_of}
use Rattle.relay960_engines.specs.Runs.{Known, Done, StoppedReading, StoppedWithin, StoppedPast, StoppedWithoutMemory}
use Rattle.relay960_engines.specs.Writing.{line}

-- ---- The answers if there is memory for all.

-- the answer to a line that says this, from the history of the lines before it
abbrev pub answer_to : LimitNumbers → History → Result Step MessageFault → Answer
answer_to limits h (Ok step) = Reply (reply_to limits h step)
answer_to limits h (Err fault) = Fault fault

-- the history after it; a line that gives no command adds nothing to it
abbrev pub history_after : LimitNumbers → History → Result Step MessageFault → History
history_after limits h (Ok step) = (step, reply_to limits h step) ∷ h
history_after limits h (Err fault) = h

-- the answers to the lines, one after another
unfoldable pub answers_to : LimitNumbers → History → List (List ℕ) → List Answer
answers_to limits h [] = []
answers_to limits h (l ∷ ls) = answer_to limits h (decoded l) ∷ answers_to limits (history_after limits h (decoded l)) ls

-- the answers as lines
unfoldable pub answer_lines : List Answer → List ℕ
answer_lines [] = []
answer_lines (a ∷ more) = line (answer_text a) ++ answer_lines more

-- what a whole run writes for the bytes that it reads, if there is memory for all
abbrev pub script_output : LimitNumbers → List ℕ → List ℕ
script_output limits bytes = answer_lines (answers_to limits [] (lines_of bytes))

-- ---- The answers when memory may be lacking: for reading a line, or for an Open or a Follow.

-- from history h the line gets this answer, which leads to history g
abbrev pub AnswersLine : LimitNumbers → History → List ℕ → Answer → History → Type 0
AnswersLine limits h l (Fault fault) g = IsDecoding l (Err fault) × (g ≡ h)
AnswersLine limits h l (Reply reply) g =
    (step : Step) × IsDecoding l (Ok step) × IsAllowed limits h step reply × (g ≡ (step, reply) ∷ h)

-- from history h the lines get these answers, one after another, which leads to history g
unfoldable pub AnswersLines : LimitNumbers → History → List (List ℕ) → List Answer → History → Type 0
AnswersLines limits h [] answers g = (answers ≡ []) × (g ≡ h)
AnswersLines limits h (l ∷ ls) answers g =
    (answer : Answer) × (mid : History) × (more : List Answer)
    × (answers ≡ answer ∷ more) × AnswersLine limits h l answer mid × AnswersLines limits mid ls more g

-- an answer that reports lack of memory
abbrev pub is_want : Answer → Bool
is_want (Reply (Refused refusals.OutOfMemory)) = true
is_want (Reply _) = false
is_want (Fault faults.OutOfMemory) = true
is_want (Fault _) = false

-- The answers to the lines of a script: each is the fault of its line, or the reply that the history of the lines before it
-- requires, or reports lack of memory. If none does, they are the answers that the lines require.
pub record ScriptAnswers (limits : LimitNumbers) (lines : List (List ℕ)) (answers : List Answer) : Type 0 where
  pub history : History
  pub answered : AnswersLines limits [] lines answers history
  pub exact : list_any is_want answers ≡ false → answers ≡ answers_to limits [] lines

-- The bytes answer the lines of a script: they are such answers, each on a line. If none reports lack of memory, they are those
-- that the lines require.
pub record Scripts (limits : LimitNumbers) (lines : List (List ℕ)) (bytes : List ℕ) : Type 0 where
  pub answers : List Answer
  pub given : ScriptAnswers limits lines answers
  pub spelt : bytes ≡ answer_lines answers
  pub exact : list_any is_want answers ≡ false → bytes ≡ answer_lines (answers_to limits [] lines)

-- The bytes answer the lines before a line for whose answer there was no memory. That line was read, and the step that it commands was
-- made: it has an answer, and that answer does not report lack of memory.
pub record ScriptsBefore (limits : LimitNumbers) (lines : List (List ℕ)) (bytes l : List ℕ) : Type 0 where
  pub scripts : Scripts limits lines bytes
  pub answer : Answer
  pub history : History
  pub answered : AnswersLine limits scripts.given.history l answer history
  pub no_want : is_want answer ≡ false

-- ---- What a run does: from what the reader holds and the writer was given before it, to what they are after it.

-- the input was read to its end, its lines were answered, and there are n of them, within both bounds
abbrev pub Ran : LimitNumbers → Bounds → Known → Known → Known → Known → ℕ → Type 0
Ran limits bounds old_input new_input old_output new_output n =
    Done (Scripts limits) bounds old_input new_input old_output new_output n

-- what a run that ends with a fault has done
abbrev pub ScriptStopped : LimitNumbers → Bounds → Known → Known → Known → Known → RunFault → Type 0
ScriptStopped limits bounds old_input new_input old_output new_output Read =
    StoppedReading (Scripts limits) bounds old_input new_input old_output new_output
ScriptStopped limits bounds old_input new_input old_output new_output Write =
    StoppedWithin (Scripts limits) bounds old_input new_input old_output new_output
ScriptStopped limits bounds old_input new_input old_output new_output TooLong =
    StoppedPast (Scripts limits) bounds old_input new_input old_output new_output
ScriptStopped limits bounds old_input new_input old_output new_output OutOfMemory =
    StoppedWithoutMemory (Scripts limits) (ScriptsBefore limits) bounds old_input new_input old_output new_output
ScriptStopped limits bounds old_input new_input old_output new_output BadStart = ⊥
