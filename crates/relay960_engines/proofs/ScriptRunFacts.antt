-- A whole run over a script: what the line engine did, in terms of the commands' answers.
use Rattle.std.proofs.Common.{◌≡◌, ℕ, List, [], ◌++◌}
use Rattle.std.proofs.Common.{None, sym, ap, ◌∙◌, refl}
use Rattle.std.proofs.Common.{Result, Ok, Err, IfOk, IfErr}
use Rattle.c960_game.specs.Limits.{LimitNumbers}
use Rattle.relay_core.specs.Stands.{Stands}
use Rattle.relay_core.specs.State.{RelayRecord}
use Rattle.relay_messages.specs.declared.answer.Answer.{Answer}
use Rattle.relay960_engines.specs.declared.bounds.Bounds.{Bounds}
use Rattle.relay960_engines.specs.declared.fault.RunFault.{RunFault}
use Rattle.relay960_engines.specs.declared.fault.RunFault.TheVariants.{Read, Write, TooLong, OutOfMemory, BadStart}
use Rattle.relay960_engines.specs.Lines.{Giving, Answers, Before, Between}
use Rattle.relay960_engines.specs.Runs.{Known, Done, RunStopped}
use Rattle.relay960_engines.specs.Script.{ScriptAnswers, Scripts, ScriptsBefore, Ran, ScriptStopped, answer_lines, AnswersLines}
use Rattle.relay960_engines.proofs.ScriptFacts.{IsGivenBy, are_answers, lines_told, one_told, with_more}
use Rattle.relay960_engines.proofs.StopFacts.{Extends, done_said, reading_said, writing_within, past_said, memory_said, not_begun}

-- answers, spelled one after another
spelt_answers : (limits : LimitNumbers) (ls : List (List ℕ)) (answers : List Answer) (text : List ℕ)
    → ScriptAnswers limits ls answers → text ≡ answer_lines answers → Scripts limits ls text
spelt_answers limits ls answers text given spelt = record {
  answers = answers;
  given = given;
  spelt = spelt;
  exact = λ had. spelt ∙ ap answer_lines (given.exact had);
}

-- the answers to lines are the beginning of answers to more lines
script_extends : (limits : LimitNumbers) → Extends (Scripts limits)
script_extends limits ls ms text given =
    let more = with_more limits ls ms given.answers given.given in (
      more.rest,
      spelt_answers limits (ls ++ ms) more.all (text ++ more.rest) more.given
          (ap (λ t. t ++ more.rest) given.spelt ∙ sym more.spelt),
    )

-- ---- The end of a run over a relay that stands at the empty history.

module _ {S : Type 0} (gives : Giving S) (relay : S → RelayRecord) (law : IsGivenBy gives relay) (s t : S) (limits : LimitNumbers)
    (bounds : Bounds) (begun : Stands limits (relay s) []) (old_input new_input a b : Known) where
  scripts : (m : S) (ls : List (List ℕ)) (text : List ℕ) → Answers gives s ls text m → Scripts limits ls text
  scripts m ls text given =
      let told = lines_told gives relay law limits s m [] ls text begun given in
      spelt_answers limits ls told.answers text (are_answers limits ls told.answers told.history told.answered) told.spelt

  scripts_before : (ls : List (List ℕ)) (text l : List ℕ) → Before gives s t ls text l → ScriptsBefore limits ls text l
  unfolding spelt_answers
  scripts_before ls text l (mid, answered, none) =
      let told = lines_told gives relay law limits s mid [] ls text begun answered in
      let given = law mid l None t none in
      let (history, one, stands) = one_told limits (relay mid) (relay t) l given.answer told.history told.stands given.leads in
      let all : ScriptAnswers limits ls told.answers = record {
        history = told.history;
        answered = told.answered;
        exact = (are_answers limits ls told.answers told.history told.answered).exact;
      } in
      record {
        scripts = spelt_answers limits ls told.answers text all told.spelt;
        answer = given.answer;
        history = history;
        answered = one;
        no_want = given.spelt;
      }

  pub ran : (result : Result ℕ RunFault)
      → IfOk result (λ count. Done (Between gives s t) bounds old_input new_input a b count)
      → IfOk result (λ count. Ran limits bounds old_input new_input a b count)
  ran (Err fault) done = tt
  ran (Ok count) done = done_said _ (Scripts limits) (scripts t) bounds old_input new_input a b count done

  pub script_stopped : (result : Result ℕ RunFault)
      → IfErr result (λ fault. RunStopped (Between gives s t) (Before gives s t) bounds old_input new_input a b fault)
      → IfErr result (λ fault. ScriptStopped limits bounds old_input new_input a b fault)
  script_stopped (Ok count) stopped = tt
  script_stopped (Err Read) stopped = reading_said _ (Scripts limits) (scripts t) bounds old_input new_input a b stopped
  script_stopped (Err Write) stopped =
      writing_within _ (Scripts limits) (scripts t) bounds old_input new_input a b (script_extends limits) stopped
  script_stopped (Err TooLong) stopped = past_said _ (Scripts limits) (scripts t) bounds old_input new_input a b stopped
  script_stopped (Err OutOfMemory) stopped =
      memory_said _ (Scripts limits) (scripts t) bounds old_input new_input a b _ (ScriptsBefore limits) scripts_before stopped
  script_stopped (Err BadStart) stopped = absurd stopped

-- there was no memory for the relay: nothing was read
pub starved_before : (limits : LimitNumbers) (bounds : Bounds) (input output : Known)
    → ScriptStopped limits bounds input input output output OutOfMemory
unfolding answer_lines AnswersLines
starved_before limits bounds input output =
    not_begun (Scripts limits) (ScriptsBefore limits) bounds input output
    (spelt_answers limits [] [] [] (are_answers limits [] [] [] (refl, refl)) refl)
