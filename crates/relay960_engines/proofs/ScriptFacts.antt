-- Lemmas on the answers to the lines of a script.
use Rattle.std.proofs.Common.{◌≡◌, ℕ, List, [], ◌∷◌, ◌++◌, Bool, true, false, ◌||◌, Result, Ok, Err}
use Rattle.std.proofs.Common.{Option, Some, refl, sym, ap, ◌∙◌, subst, inl, inr, append_assoc}
use Rattle.std.specs.List.{list_any}
use Rattle.c960_game.specs.declared.refusal.Refusal.TheVariants as refusals
use Rattle.c960_game.specs.Limits.{LimitNumbers}
use Rattle.relay_core.specs.declared.step.Step.{Step}
use Rattle.relay_core.specs.declared.reply.Reply.{Reply as AnyReply}
use Rattle.relay_core.specs.declared.reply.Reply.TheVariants.{Refused}
use Rattle.relay_core.specs.History.{History}
use Rattle.relay_core.specs.Replies.{IsAllowed, reply_to}
use Rattle.relay_core.specs.Stands.{Stands}
use Rattle.relay_core.specs.State.{RelayRecord}
use Rattle.relay_messages.specs.declared.answer.Answer.{Answer}
use Rattle.relay_messages.specs.declared.answer.Answer.TheVariants.{Reply, Fault}
use Rattle.relay_messages.specs.declared.fault.MessageFault.{MessageFault}
use Rattle.relay_messages.specs.declared.fault.MessageFault.TheVariants.{OutOfMemory, NotJson, NotObject, UnknownCommand, BadField}
use Rattle.relay_messages.specs.Answers.{answer_text}
use Rattle.relay_messages.specs.Decoding.{IsDecoding, decoded}
use Rattle.relay960_engines.specs.Lines.{Giving, Answers}
use Rattle.relay960_engines.specs.Script.{answer_to, history_after, answers_to, answer_lines, AnswersLine, AnswersLines, is_want, ScriptAnswers}
use Rattle.relay960_engines.specs.Inner.ScriptSteps.{ScriptGives, LeadsTo}
use Rattle.relay960_engines.specs.Writing.{line}

-- ---- Answers that do not report lack of memory are the ones that the lines require.

abbrev IsAsked : LimitNumbers → History → List ℕ → Answer → History → Type 0
IsAsked limits h l answer g = (answer ≡ answer_to limits h (decoded l)) × (g ≡ history_after limits h (decoded l))

fault_asked : (limits : LimitNumbers) (h : History) (l : List ℕ) (fault : MessageFault) (g : History)
    → AnswersLine limits h l (Fault fault) g → is_want (Fault fault) ≡ false → IsAsked limits h l (Fault fault) g
fault_asked limits h l fault g (inl same, kept) had =
    (ap (answer_to limits h) same, kept ∙ ap (history_after limits h) same)
fault_asked limits h l OutOfMemory g (inr want, kept) had = cc
fault_asked limits h l NotJson g (inr want, kept) had = let other = want.1 in cc
fault_asked limits h l NotObject g (inr want, kept) had = let other = want.1 in cc
fault_asked limits h l UnknownCommand g (inr want, kept) had = let other = want.1 in cc
fault_asked limits h l BadField g (inr want, kept) had = let other = want.1 in cc

is_no_want : (reply : AnyReply) → reply ≡ Refused refusals.OutOfMemory → is_want (Reply reply) ≡ false → ⊥
is_no_want reply same had = let want : is_want (Reply reply) ≡ true = ap (λ r. is_want (Reply r)) same in cc

reply_allowed : (limits : LimitNumbers) (h : History) (step : Step) (reply : AnyReply) → IsAllowed limits h step reply
    → is_want (Reply reply) ≡ false → reply ≡ reply_to limits h step
reply_allowed limits h step reply (inl same) had = same
reply_allowed limits h step reply (inr want) had = absurd (is_no_want reply want.2 had)

step_read : (l : List ℕ) (step : Step) → IsDecoding l (Ok step) → Ok step ≡ decoded l
step_read l step (inl same) = same
step_read l step (inr want) = let other = want.1 in cc

reply_asked : (limits : LimitNumbers) (h : History) (l : List ℕ) (reply : AnyReply) (g : History)
    → AnswersLine limits h l (Reply reply) g → is_want (Reply reply) ≡ false → IsAsked limits h l (Reply reply) g
reply_asked limits h l reply g (step, says, allowed, kept) had =
    let read : Ok step ≡ decoded l = step_read l step says in
    let same : reply ≡ reply_to limits h step = reply_allowed limits h step reply allowed had in (
      ap (λ r. Reply r) same ∙ ap (answer_to limits h) read,
      kept ∙ ap (λ r. (step, r) ∷ h) same ∙ ap (history_after limits h) read,
    )

one_asked : (limits : LimitNumbers) (h : History) (l : List ℕ) (answer : Answer) (g : History)
    → AnswersLine limits h l answer g → is_want answer ≡ false → IsAsked limits h l answer g
one_asked limits h l (Fault fault) g given had = fault_asked limits h l fault g given had
one_asked limits h l (Reply reply) g given had = reply_asked limits h l reply g given had

neither : (a b : Bool) → (a || b) ≡ false → (a ≡ false) × (b ≡ false)
neither true b h = cc
neither false b h = (refl, h)

all_asked : (limits : LimitNumbers) (h : History) (ls : List (List ℕ)) (answers : List Answer) (g : History)
    → AnswersLines limits h ls answers g → list_any is_want answers ≡ false → answers ≡ answers_to limits h ls
unfolding AnswersLines answers_to
all_asked limits h [] answers g (none, same) had = none
all_asked limits h (l ∷ ls) answers g (answer, mid, more, split, one, others) had =
    let (first, rest) = neither (is_want answer) (list_any is_want more) (sym (ap (list_any is_want) split) ∙ had) in
    let (asked, after) = one_asked limits h l answer mid one first in
    split ∙ ap (λ a. a ∷ more) asked
    ∙ ap (λ all. answer_to limits h (decoded l) ∷ all) (all_asked limits mid ls more g others rest ∙ ap (λ k. answers_to limits k ls) after)

pub are_answers : (limits : LimitNumbers) (ls : List (List ℕ)) (answers : List Answer) (g : History)
    → AnswersLines limits [] ls answers g → ScriptAnswers limits ls answers
are_answers limits ls answers g answered =
    record { history = g; answered = answered; exact = all_asked limits [] ls answers g answered }

-- ---- More lines after others.

asked_is_answered : (limits : LimitNumbers) (h : History) (l : List ℕ) (said : Result Step MessageFault) → said ≡ decoded l
    → AnswersLine limits h l (answer_to limits h said) (history_after limits h said)
asked_is_answered limits h l (Ok step) same = (step, inl same, inl refl, refl)
asked_is_answered limits h l (Err fault) same = (inl same, refl)

-- any lines can be answered from any history
answered_on : (limits : LimitNumbers) (h : History) (ls : List (List ℕ)) → (g : History) × AnswersLines limits h ls (answers_to limits h ls) g
unfolding AnswersLines answers_to
answered_on limits h [] = (h, (refl, refl))
answered_on limits h (l ∷ ls) =
    let mid : History = history_after limits h (decoded l) in
    let (g, others) = answered_on limits mid ls in
    (g, (answer_to limits h (decoded l), mid, answers_to limits mid ls, refl, asked_is_answered limits h l (decoded l) refl, others))

answered-append : (limits : LimitNumbers) (h : History) (ls : List (List ℕ)) (answers : List Answer) (g : History)
    (ms : List (List ℕ)) (others : List Answer) (k : History) → AnswersLines limits h ls answers g
    → AnswersLines limits g ms others k → AnswersLines limits h (ls ++ ms) (answers ++ others) k
unfolding AnswersLines
answered-append limits h [] answers g ms others k (none, same) behind =
    subst (λ all. AnswersLines limits h ms all k) (ap (λ all. all ++ others) (sym none))
    (subst (λ from. AnswersLines limits from ms others k) same behind)
answered-append limits h (l ∷ ls) answers g ms others k (answer, mid, more, split, one, rest) behind =
    (answer, mid, more ++ others, ap (λ all. all ++ others) split, one, answered-append limits mid ls more g ms others k rest behind)

answer_lines-append : (xs ys : List Answer) → answer_lines (xs ++ ys) ≡ answer_lines xs ++ answer_lines ys
unfolding answer_lines
answer_lines-append [] ys = refl
answer_lines-append (x ∷ xs) ys =
    ap (λ text. line (answer_text x) ++ text) (answer_lines-append xs ys)
    ∙ sym (append_assoc (line (answer_text x)) (answer_lines xs) (answer_lines ys))

-- answers to lines, followed by answers to more lines
pub record WithMore (limits : LimitNumbers) (ls ms : List (List ℕ)) (answers : List Answer) : Type 0 where
  pub all : List Answer
  pub given : ScriptAnswers limits (ls ++ ms) all
  pub rest : List ℕ
  pub spelt : answer_lines all ≡ answer_lines answers ++ rest

pub with_more : (limits : LimitNumbers) (ls ms : List (List ℕ)) (answers : List Answer) → ScriptAnswers limits ls answers
    → WithMore limits ls ms answers
with_more limits ls ms answers given =
    let (k, behind) = answered_on limits given.history ms in
    let others : List Answer = answers_to limits given.history ms in
    record {
      all = answers ++ others;
      given = are_answers limits (ls ++ ms) (answers ++ others) k
          (answered-append limits [] ls answers given.history ms others k given.answered behind);
      rest = answer_lines others;
      spelt = answer_lines-append answers others;
    }

-- ---- What the answerer of a script gives.

-- the lines' answers, and the history at which the relay stands after them
pub record Told (limits : LimitNumbers) (h : History) (ls : List (List ℕ)) (bytes : List ℕ) (r : RelayRecord) : Type 0 where
  pub answers : List Answer
  pub history : History
  pub answered : AnswersLines limits h ls answers history
  pub spelt : bytes ≡ answer_lines answers
  pub stands : Stands limits r history

pub one_told : (limits : LimitNumbers) (r q : RelayRecord) (l : List ℕ) (answer : Answer) (h : History) → Stands limits r h
    → LeadsTo r l answer q → (g : History) × AnswersLine limits h l answer g × Stands limits q g
one_told limits r q l (Fault fault) h stands (says, same) = (h, (says, refl), subst (λ x. Stands limits x h) (sym same) stands)
one_told limits r q l (Reply reply) h stands (step, says, leads) =
    let after = leads limits h stands in
    ((step, reply) ∷ h, (step, says, after.lawful.0, refl), after)

-- what an answerer with a relay gives
abbrev pub IsGivenBy : {S : Type 0} → Giving S → (S → RelayRecord) → Type 0
IsGivenBy {S} gives relay =
    (s : S) (l : List ℕ) (bytes : Option (List ℕ)) (t : S) → gives s l bytes t → ScriptGives (relay s) l bytes (relay t)

pub lines_told : {S : Type 0} (gives : Giving S) (relay : S → RelayRecord) → IsGivenBy gives relay
    → (limits : LimitNumbers) (s t : S) (h : History) (ls : List (List ℕ)) (bytes : List ℕ) → Stands limits (relay s) h
    → Answers gives s ls bytes t → Told limits h ls bytes (relay t)
unfolding Answers AnswersLines answer_lines
lines_told gives relay law limits s t h [] bytes stands (none, same) =
    record {
      answers = [];
      history = h;
      answered = (refl, refl);
      spelt = none;
      stands = subst (λ x. Stands limits (relay x) h) (sym same) stands;
    }
lines_told gives relay law limits s t h (l ∷ ls) bytes stands (text, mid, rest, one, split, others) =
    let given = law s l (Some text) mid one in
    let (g, answered, after) = one_told limits (relay s) (relay mid) l given.answer h stands given.leads in
    let told = lines_told gives relay law limits mid t g ls rest after others in
    record {
      answers = given.answer ∷ told.answers;
      history = told.history;
      answered = (given.answer, g, told.answers, refl, answered, told.answered);
      spelt = split ∙ ap (λ x. x ++ rest) given.spelt ∙ ap (λ x. line (answer_text given.answer) ++ x) told.spelt;
      stands = told.stands;
    }
