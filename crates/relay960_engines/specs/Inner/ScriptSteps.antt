-- What a script gives: a line is answered by the relay's reply to its command, or by its fault. A line is
-- answered as its first KEPT bytes are, since a longer one is too long for a command.
use Rattle.std.specs.Prelude.{ℕ, ◌≡◌, List, take, Option, Some, None, Ok, Err, false}
use Rattle.std.proofs.Common.{lit<}
use Rattle.relay_core.specs.declared.step.Step.{Step}
use Rattle.relay_core.specs.Leads.{Leads}
use Rattle.relay_core.specs.State.{RelayRecord}
use Rattle.relay_messages.proofs.lemmas.Decoding.{decoding_of_front}
use Rattle.relay_messages.specs.declared.answer.Answer.{Answer}
use Rattle.relay_messages.specs.declared.answer.Answer.TheVariants.{Reply, Fault}
use Rattle.relay_messages.specs.Answers.{answer_text}
use Rattle.relay_messages.specs.Decoding.{IsDecoding}
use Rattle.relay960_engines.specs.declared.kept_line.TheConstants.{KEPT}
use Rattle.relay960_engines.specs.Script.{is_want}
use Rattle.relay960_engines.specs.Writing.{line}

-- from relay r the line gets this answer, which leads to relay q
abbrev pub LeadsTo : RelayRecord → List ℕ → Answer → RelayRecord → Type 0
LeadsTo r l (Fault fault) q = IsDecoding l (Err fault) × (q ≡ r)
LeadsTo r l (Reply reply) q = (step : Step) × IsDecoding l (Ok step) × Leads r q step reply

-- the bytes are the line of the answer; there are none for lack of memory, which cannot happen to an answer that itself reports it
abbrev pub IsLineOf : Answer → Option (List ℕ) → Type 0
IsLineOf answer (Some bytes) = bytes ≡ line (answer_text answer)
IsLineOf answer None = is_want answer ≡ false

-- the same, with the bytes of the answer
pub record ScriptGives (r : RelayRecord) (l : List ℕ) (bytes : Option (List ℕ)) (q : RelayRecord) : Type 0 where
  pub answer : Answer
  pub leads : LeadsTo r l answer q
  pub spelt : IsLineOf answer bytes

leads_cut : (r : RelayRecord) (l : List ℕ) (answer : Answer) (q : RelayRecord) → LeadsTo r (take KEPT l) answer q → LeadsTo r l answer q
leads_cut r l (Fault fault) q given = (decoding_of_front KEPT l (Err fault) (lit< tt) given.0, given.1)
leads_cut r l (Reply reply) q (step, says, leads) = (step, decoding_of_front KEPT l (Ok step) (lit< tt) says, leads)

pub answers_cut : (r : RelayRecord) (l : List ℕ) (bytes : Option (List ℕ)) (q : RelayRecord) → ScriptGives r (take KEPT l) bytes q → ScriptGives r l bytes q
answers_cut r l bytes q given =
    record { answer = given.answer; leads = leads_cut r l given.answer q given.leads; spelt = given.spelt }
