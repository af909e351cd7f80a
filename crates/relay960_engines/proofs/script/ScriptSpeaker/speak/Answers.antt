use Rattle.std.proofs.Common.{ℕ, List, Some, refl}
use Rattle.relay_core.specs.State.{RelayRecord}
use Rattle.relay_messages.specs.Answers.{answer_text}
use Rattle.relay_messages.specs.declared.answer.Answer.{Answer}
use Rattle.relay960_engines.specs.Inner.ScriptSteps.{LeadsTo, ScriptGives}
use Rattle.relay960_engines.specs.Writing.{line}
use Rattle.relay960_engines.proofs.SendingFacts.{sent_answer, unsent_answer}
use Rattle.relay960_engines.proofs.script.ScriptSpeaker.speak.Goals as goal

-- the line of the answer is what is given
gives : (r : RelayRecord) (l : List ℕ) (a : Answer) (q : RelayRecord) → LeadsTo r l a q → ScriptGives r l (Some (line (answer_text a))) q
gives r l a q leads = record { answer = a; leads = leads; spelt = refl }

pub returns-clause-sent : goal.returns-clause-sent
returns-clause-sent g c =
    sent_answer _ _ _ _ _ _ _ _ (gives _ _ c.reply-answer.result _ c.reply-answer.ensures) c.add_answer.ensures.sent

pub returns-clause-failed : goal.returns-clause-failed
returns-clause-failed g c =
    unsent_answer _ _ _ _ _ _ _ _ (gives _ _ c.reply-answer.result _ c.reply-answer.ensures) c.add_answer.ensures.part c.add_answer.ensures.fault
